-- The subkeys of a key as the code keeps them: subkeys_of.
use Rattle.std.specs.Prelude.{ℕ, List}
use Rattle.cmac.specs.Cmac.{first_subkey, second_subkey}
use Rattle.cmac.specs.declared.subkeys.Subkeys.{Subkeys}

abbrev pub subkeys_of : List ℕ → Subkeys
subkeys_of key = record { first = first_subkey key; second = second_subkey key }
