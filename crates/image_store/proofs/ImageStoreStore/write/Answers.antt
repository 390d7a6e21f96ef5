use Rattle.std.proofs.Common.{◌≡◌, ◌-◌, ap, ◌∙◌, rules}
use Rattle.image.specs.Formats.{format_answer, formatted}
use Rattle.image_store.proofs.Stores.{wrote}
use Rattle.image_store.proofs.ImageStoreStore.write.Goals as goal

pub returns : goal.returns
returns c =
    let n = c.writes_left-left.result in
    let t = c.writes_left-left.new.self in
    let items = c.as_mut_slice.ensures.value in
    let some : n ≡ 0 → ⊥ = search rules in
    let w = wrote c.args.self.now t c.args.r n c.is_ok.result c.format_record.result c.format_record.new.memory
    c.writes_left-left.ensures.same
    c.writes_left-left.ensures.value
    some
    (c.format_record.ensures.answer ∙ ap format_answer items)
    c.is_ok.ensures.value
    (c.format_record.ensures.after ∙ ap (formatted c.args.r (n - 1)) items) in
    record { test = w.test; after = w.after; bytes = w.bytes }
