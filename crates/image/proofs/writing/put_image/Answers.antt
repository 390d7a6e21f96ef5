use Rattle.std.proofs.Common.{◌^◌, ◌<◌, ◌∙◌, rules}
use Rattle.fields.proofs.Spells.{spelled_bytes}
use Rattle.image.proofs.Puts.{put_all}
use Rattle.image.proofs.writing.put_image.Goals as goal

pub returns : goal.returns
returns c =
    let room : c.args.writes < 256 ^ 4 = search rules in
    put_all c.args.kept c.args.writes _ c.args.memory.now _ _ (c.to_be_bytes.ensures ∙ spelled_bytes 3 c.args.writes room) c.put_record.ensures c.put_field.ensures
