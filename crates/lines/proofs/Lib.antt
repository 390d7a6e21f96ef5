mod Amounts
mod Reading
