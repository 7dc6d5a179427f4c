-- A desk, and what a search leaves of it. Assumes nothing.
use Rattle.std.specs.Prelude.{◌≡◌, ℕ, min, List, length, Option}
use Rattle.labelling.specs.declared.desk.Desk.{Desk}
use Rattle.labelling.specs.Tables.{Rule, Tables, tables, Ready, standing}

-- the tables that lie on a desk
abbrev pub tables_on : {K Q E : Type 0} → Desk Q E K → Tables K
tables_on d = tables d.labels.now d.ways.now

-- the same desk with other tables in its rows
abbrev pub with_tables : {K Q E : Type 0} → Desk Q E K → Tables K → Desk Q E K
with_tables d t = record d { labels = record d.labels { now = t.labels }; ways = record d.ways { now = t.ways } }

-- how many labels the rows have a place for
abbrev pub places_on : {K Q E : Type 0} → Desk Q E K → ℕ
places_on d = min (length d.labels.now) (length d.ways.now)

-- fit for a search by a rule: what waits in the queue is what waits in the tables, and the queue is in good order
pub record Fit {K Q E : Type 0} (r : Rule K) (waiting : Q → List (Option K)) (ok : Q → Type 0) (d : Desk Q E K) : Type 0 where
  pub ready : Ready r (tables_on d) (waiting d.queue)
  pub good : ok d.queue

-- what a search may not change of a desk: the rows that it was lent, and the queue's lent memory and capacity
abbrev pub lent : {K Q E : Type 0} → (Q → List ℕ) → (Q → List (Option K)) → Desk Q E K → (ℕ × ℕ) × (List ℕ × ℕ)
lent lender waiting d = ((d.labels.ghost_name, d.ways.ghost_name), standing (lender d.queue) (waiting d.queue))

-- a step of a search leaves the desk fit, and the same, but for what the rows and the queue hold
pub record Kept {K Q E : Type 0} (r : Rule K) (waiting : Q → List (Option K)) (ok : Q → Type 0) (lender : Q → List ℕ) (d d' : Desk Q E K) : Type 0 where
  pub fit : Fit r waiting ok d'
  pub lent : lent lender waiting d' ≡ lent lender waiting d
  pub estimator : d'.estimator ≡ d.estimator
