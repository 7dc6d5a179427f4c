-- A case holds where the one bound that its estimator may make gives its result. Assumes nothing.
use Rattle.std.proofs.Common.{◌≡◌, ℕ, ◌≤◌, true, false, cond, eqb, List, length, Ok, Err, refl, ◌∙◌}
use Rattle.std.proofs.lemmas.Bool.{le-ltb}
use Rattle.network.specs.Costs.{Kind, Laws}
use Rattle.network.specs.Layouts.{Layout}
use Rattle.network.specs.declared.refusal.Refusal.TheVariants.{NoOutlet, LabelMemory, QueueCapacity, AnswerRow}
use Rattle.estimate.specs.Estimates.{silent_bound, Silence}
use Rattle.farthest.specs.Trials.{table}
use Rattle.farthest.specs.Distances.{far_bound, Far}
use Rattle.farthest.specs.Memories.{in_row}
use Rattle.farthest.proofs.Bounding.{found_measured}
use Rattle.farthest.proofs.Pinned.{far_pins}
use Rattle.labelling.specs.Tables.{Tables, codes}
use Rattle.labelling.specs.Starts.{size_of}
use Rattle.search.specs.Planning.{Planned, then_ask, questions, planned}
use Rattle.cases.specs.Case.{Comes}
use Rattle.cases.proofs.Sound.{sound, sound_priced, sound_facts}

module _ {K : Type 0} (kind : Kind K) (l : Layout K) (marked : eqb (length l.outlets) 0 ≡ false) where
  enough : (places capacity row : ℕ) → codes (size_of l) ≤ places → codes (size_of l) ≤ capacity → length l.runs ≤ row
      → questions l places capacity true row ≡ Ok (size_of l)
  enough places capacity row p c r = λ i.
      then_ask
      (cond (marked i) (Err NoOutlet)
      (cond (le-ltb places (codes (size_of l)) p i) (Err LabelMemory)
      (cond (le-ltb capacity (codes (size_of l)) c i) (Err QueueCapacity) (Ok (size_of l)))))
      (cond (le-ltb row (length l.runs) r i) (Err AnswerRow) (Ok (size_of l)))

  module _ (limit : ℕ) (p : List ℕ → Planned K) where
    -- where F is a bound that may be made, and the only one
    by_one : (makes : (ℕ → ℕ → K) → Type 0) (F : ℕ → ℕ → K) → makes F → ((E : ℕ → ℕ → K) → makes E → (v I : ℕ) → E v I ≡ F v I)
        → ((before : Tables K) (row : List ℕ) → planned kind F l limit before row ≡ p row) → Comes kind makes l limit p
    by_one makes F made one gives = record {
      asked = enough;
      some = (F, made);
      plans = λ E other before row. (λ i. planned kind (λ v I. one E other v I i) l limit before row) ∙ gives before row;
    }

    pub silently : ((before : Tables K) (row : List ℕ) → planned kind (silent_bound kind) l limit before row ≡ p row) → Comes kind (Silence kind) l limit p
    silently gives = by_one (Silence kind) (silent_bound kind) (λ v I. refl) (λ E silence. silence) gives

    -- the bound by the distances that rounds along the runs find
    abbrev found : ℕ → ℕ → K
    found = far_bound kind l.junctions (length l.outlets) (in_row (table kind l.junctions l.runs l.«open» (length l.outlets) l.outlets))

    pub by_farthest : (laws : Laws kind) → sound kind l ≡ true → ((before : Tables K) (row : List ℕ) → planned kind found l limit before row ≡ p row) → Comes kind (Far kind l) l limit p
    by_farthest laws e gives = by_one (Far kind l) found far (λ E other. far_pins laws l E found (sound_priced kind l e) other far) gives
      where
        far : Far kind l found
        far = record { distances = _; measured = λ _. found_measured laws l (sound_facts kind l e); is = λ v I. refl }
