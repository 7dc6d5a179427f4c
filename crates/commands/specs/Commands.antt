-- The commands by their words. Assumes nothing.
use Rattle.std.specs.Prelude.{ℕ, cond, List, [], ◌∷◌, Some, None, codes, Option}
use Rattle.std.specs.Str.{bytes_eq}
use Rattle.commands.specs.declared.command.Command.{Command}
use Rattle.commands.specs.declared.command.Command.TheVariants.{Nothing, District, Call}
use Rattle.commands.specs.declared.command.Call.TheVariants.{Lay, Reprice, Close, Open, Mark, Unmark, Plan, Dug}
use Rattle.commands.specs.declared.command.CostKind.{CostKind}
use Rattle.commands.specs.declared.command.CostKind.TheVariants.{Money as InMoney, Crossings as InCrossings}
use Rattle.commands.specs.declared.command.Figure.{Figure}
use Rattle.commands.specs.declared.command.PlanWords.{PlanWords}
use Rattle.commands.specs.declared.command.QueueChoice.{QueueChoice}
use Rattle.commands.specs.declared.command.QueueChoice.TheVariants.{Row, Heap}
use Rattle.commands.specs.declared.command.EstimatorChoice.{EstimatorChoice}
use Rattle.commands.specs.declared.command.EstimatorChoice.TheVariants.{Silent, Farthest, Larger}
use Rattle.commands.specs.declared.parts.Part.{Part}
use Rattle.commands.specs.declared.parts.Part.TheVariants.{Limit as OfLimit, Labels as OfLabels, Room as OfRoom, Row as OfRow, Places as OfPlaces, Queue as OfQueue, Estimator as OfEstimator}
use Rattle.lines.specs.Words.{words, uncommented}
use Rattle.lines.specs.Numbers.{number_of}
use Rattle.lines.specs.Reading.{Word, with_number, only, once, parts}
pub use Rattle.lines.specs.Reading.{bind}
use Rattle.commands.specs.Figures.{figure_of}

-- the cost that the first word says, and the other words
abbrev pub first_figure : List Word → Option (Figure × List Word)
first_figure [] = None
first_figure (w ∷ ws) = bind (figure_of w) (λ c. Some (c, ws))

abbrev pub with_figure : List Word → (Figure → List Word → Option Command) → Option Command
with_figure ws f = bind (first_figure ws) (λ p. f p.0 p.1)

-- in what a district's costs are told: money where nothing is said
abbrev pub kind_of : List Word → Option CostKind
kind_of [] = Some InMoney
kind_of (w ∷ []) = cond (bytes_eq w (codes "crossings")) (Some InCrossings) None
kind_of (w ∷ v ∷ ws) = None

-- district N CAPACITY [crossings]
abbrev pub district_of : List Word → Option Command
district_of ws = with_number ws (λ n vs. with_number vs (λ m us. bind (kind_of us) (λ k. Some (District n m k))))

-- lay A B COST
abbrev pub lay_of : List Word → Option Command
lay_of ws = with_number ws (λ a vs. with_number vs (λ b us. with_figure us (λ cost ts. only ts (Call (Lay a b cost)))))

-- reprice R COST
abbrev pub reprice_of : List Word → Option Command
reprice_of ws = with_number ws (λ r vs. with_figure vs (λ cost us. only us (Call (Reprice r cost))))

-- close R
abbrev pub close_of : List Word → Option Command
close_of ws = with_number ws (λ r vs. only vs (Call (Close r)))

-- open R
abbrev pub open_of : List Word → Option Command
open_of ws = with_number ws (λ r vs. only vs (Call (Open r)))

-- mark J
abbrev pub mark_of : List Word → Option Command
mark_of ws = with_number ws (λ j vs. only vs (Call (Mark j)))

-- unmark J
abbrev pub unmark_of : List Word → Option Command
unmark_of ws = with_number ws (λ j vs. only vs (Call (Unmark j)))

-- dug C
abbrev pub dug_of : List Word → Option Command
dug_of ws = with_figure ws (λ cost vs. only vs (Call (Dug cost)))

-- ---- plan [limit L] [labels P] [room Q] [row A] [places D] [queue row|heap] [estimator silent|farthest|larger], the parts in any
-- order, each at most once

abbrev pub queue_of : Word → Option QueueChoice
queue_of w = cond (bytes_eq w (codes "row")) (Some Row) (cond (bytes_eq w (codes "heap")) (Some Heap) None)

abbrev pub estimator_of : Word → Option EstimatorChoice
estimator_of w =
    cond (bytes_eq w (codes "silent")) (Some Silent)
    (cond (bytes_eq w (codes "farthest")) (Some Farthest)
    (cond (bytes_eq w (codes "larger")) (Some Larger) None))

-- the numbers of a plan's line: limit, labels, room, row and places
abbrev pub numbered : PlanWords → Option ℕ → Option ℕ → Option ℕ → Option ℕ → Option ℕ → PlanWords
numbered p limit labels room row places = record { limit = limit; labels = labels; room = room; row = row; places = places; queue = p.queue; estimator = p.estimator }

-- its choices: queue and estimator
abbrev pub chosen : PlanWords → Option QueueChoice → Option EstimatorChoice → PlanWords
chosen p queue estimator = record { limit = p.limit; labels = p.labels; room = p.room; row = p.row; places = p.places; queue = queue; estimator = estimator }

-- what a part tells, by its name
abbrev pub part_of : Word → Option Part
part_of name =
    cond (bytes_eq name (codes "limit")) (Some OfLimit)
    (cond (bytes_eq name (codes "labels")) (Some OfLabels)
    (cond (bytes_eq name (codes "room")) (Some OfRoom)
    (cond (bytes_eq name (codes "row")) (Some OfRow)
    (cond (bytes_eq name (codes "places")) (Some OfPlaces)
    (cond (bytes_eq name (codes "queue")) (Some OfQueue)
    (cond (bytes_eq name (codes "estimator")) (Some OfEstimator) None))))))

-- a value for what has none yet
abbrev pub valued : PlanWords → Part → Word → Option PlanWords
valued p OfLimit value = bind (once p.limit (number_of value)) (λ x. Some (numbered p (Some x) p.labels p.room p.row p.places))
valued p OfLabels value = bind (once p.labels (number_of value)) (λ x. Some (numbered p p.limit (Some x) p.room p.row p.places))
valued p OfRoom value = bind (once p.room (number_of value)) (λ x. Some (numbered p p.limit p.labels (Some x) p.row p.places))
valued p OfRow value = bind (once p.row (number_of value)) (λ x. Some (numbered p p.limit p.labels p.room (Some x) p.places))
valued p OfPlaces value = bind (once p.places (number_of value)) (λ x. Some (numbered p p.limit p.labels p.room p.row (Some x)))
valued p OfQueue value = bind (once p.queue (queue_of value)) (λ x. Some (chosen p (Some x) p.estimator))
valued p OfEstimator value = bind (once p.estimator (estimator_of value)) (λ x. Some (chosen p p.queue (Some x)))

-- one part more: its name and its value
abbrev pub with_part : PlanWords → Word → Word → Option PlanWords
with_part p name value = bind (part_of name) (λ q. valued p q value)

abbrev pub unsaid : PlanWords
unsaid = record { limit = None; labels = None; room = None; row = None; places = None; queue = None; estimator = None }

abbrev pub plan_of : List Word → Option Command
plan_of ws = bind (parts with_part ws unsaid) (λ p. Some (Call (Plan p)))

-- ---- a line

abbrev pub command_of : Word → List Word → Option Command
command_of verb ws =
    cond (bytes_eq verb (codes "district")) (district_of ws)
    (cond (bytes_eq verb (codes "lay")) (lay_of ws)
    (cond (bytes_eq verb (codes "reprice")) (reprice_of ws)
    (cond (bytes_eq verb (codes "close")) (close_of ws)
    (cond (bytes_eq verb (codes "open")) (open_of ws)
    (cond (bytes_eq verb (codes "mark")) (mark_of ws)
    (cond (bytes_eq verb (codes "unmark")) (unmark_of ws)
    (cond (bytes_eq verb (codes "plan")) (plan_of ws)
    (cond (bytes_eq verb (codes "dug")) (dug_of ws) None))))))))

-- what the words of a line say; none where they are not understood
abbrev pub said : List Word → Option Command
said [] = Some Nothing
said (verb ∷ ws) = command_of verb ws

abbrev pub understood : List ℕ → Option Command
understood line = said (words (uncommented line))
