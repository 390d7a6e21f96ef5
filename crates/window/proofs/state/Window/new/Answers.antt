use Rattle.refusal.proofs.Making.{so}
use Rattle.window.proofs.state.Window.new.Goals as goal

pub returns-then-marks-mark_count-eq0 : goal.returns-then-marks-mark_count-eq0
returns-then-marks-mark_count-eq0 c = so _ _ _
