use Rattle.std.proofs.Common.{◌^◌, ◌<◌, ap, ◌∙◌, rules}
use Rattle.fields.specs.Spelling.{spell}
use Rattle.fields.proofs.Spells.{spelled_bytes}
use Rattle.image.proofs.Puts.{put_five}
use Rattle.image.proofs.writing.put_record.Goals as goal

pub returns : goal.returns
returns c =
    let r = c.args.kept in
    let credit : r.credit < 256 ^ 4 = search rules in
    let highest : c.highest.result < 256 ^ 4 = search rules in
    let marks : c.marks.result < 256 ^ 16 = search rules in
    let index : r.index < 256 ^ 2 = search rules in
    put_five r _ _ _ _ _ c.args.memory.now _ _ _ _ _
    (c.to_be_bytes.ensures ∙ spelled_bytes 3 r.credit credit)
    (c.to_be_bytes-2.ensures ∙ spelled_bytes 3 c.highest.result highest ∙ ap (spell 4) c.highest.ensures)
    (c.to_be_bytes-3.ensures ∙ spelled_bytes 15 c.marks.result marks ∙ ap (spell 16) c.marks.ensures)
    (c.to_be_bytes-4.ensures ∙ spelled_bytes 1 r.index index)
    c.tariff_bytes.ensures
    c.put_field.ensures c.put_field-2.ensures c.put_field-3.ensures c.put_field-4.ensures c.put_field-5.ensures
