-- What of an answer is asked for. Assumes nothing.
use Rattle.std.specs.Prelude.{ℕ, Option, Some, None}
use Rattle.oracle.specs.declared.record.Fails.{Fails}
use Rattle.oracle.specs.declared.record.Fails.TheVariants.{NoLabelWaits, LimitReached}
use Rattle.oracle.specs.declared.said.Figure.{Figure}
use Rattle.oracle.specs.declared.said.Said.{Said}
use Rattle.oracle.specs.declared.said.Said.TheVariants.{Untried, Done, Laid, Refused, Planned, Unjoined, Stopped}

-- the question that was failed
abbrev pub question_of : Said → Option Fails
question_of Untried = None
question_of Done = None
question_of (Laid run) = None
question_of (Refused fails) = Some fails
question_of (Planned turns cost runs) = None
question_of (Unjoined turns) = Some NoLabelWaits
question_of (Stopped turns floor) = Some LimitReached

-- the turns that a plan took
abbrev pub turns_of : Said → Option ℕ
turns_of Untried = None
turns_of Done = None
turns_of (Laid run) = None
turns_of (Refused fails) = None
turns_of (Planned turns cost runs) = Some turns
turns_of (Unjoined turns) = Some turns
turns_of (Stopped turns floor) = Some turns

-- what a plan costs that was found
abbrev pub cost_of : Said → Option Figure
cost_of Untried = None
cost_of Done = None
cost_of (Laid run) = None
cost_of (Refused fails) = None
cost_of (Planned turns cost runs) = Some cost
cost_of (Unjoined turns) = None
cost_of (Stopped turns floor) = None
