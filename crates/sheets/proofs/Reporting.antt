-- Trials that report what calls got. Assumes nothing.
use Rattle.std.proofs.Common.{◌≡◌, ℕ, Bool, true, false, cond, Bor, MatchOption, eqb, List, [], ◌∷◌, ◌++◌, length, Some, None, Option, sym, refl, ap, ◌∙◌, subst, arith}
use Rattle.std.specs.List.{find}
use Rattle.std.specs.Option.{option_map}
use Rattle.network.specs.Costs.{Kind}
use Rattle.commands.specs.declared.command.QueueChoice.{QueueChoice}
use Rattle.commands.specs.declared.command.QueueChoice.TheVariants.{Row, Heap}
use Rattle.commands.specs.declared.command.EstimatorChoice.{EstimatorChoice}
use Rattle.commands.specs.declared.command.EstimatorChoice.TheVariants.{Silent, Farthest, Larger}
use Rattle.requests.specs.declared.tools.Tools.{Tools}
use Rattle.requests.specs.Tools.{same_tools}
use Rattle.sheets.specs.declared.sheet.Sheet.{Sheet}
use Rattle.sheets.specs.declared.sheet.Trial.{Trial}
use Rattle.sheets.specs.Sheets.{SheetTried}
use Rattle.sheets.specs.Trials.{EachTried, reporting, NoneReports, SomeReports, Grown, Added, Reported, GrownBy, GrownFor, Named, Trials}

itself : (tools : Tools) → same_tools tools tools ≡ true
itself tools = by tools.queue tools.estimator
  where
    by : (q : QueueChoice) (e : EstimatorChoice) → same_tools (record { queue = q; estimator = e }) (record { queue = q; estimator = e }) ≡ true
    by Row Silent = refl
    by Row Farthest = refl
    by Row Larger = refl
    by Heap Silent = refl
    by Heap Farthest = refl
    by Heap Larger = refl

none_before : {K : Type 0} (tools : Option Tools) (ts : List (Trial K)) (t : Trial K) → NoneReports tools (ts ++ t ∷ []) → NoneReports tools ts
none_before tools [] t h = tt
none_before tools (x ∷ ts) t h = (h.0, none_before tools ts t h.1)

none_last : {K : Type 0} (tools : Option Tools) (ts : List (Trial K)) (t : Trial K) → NoneReports tools (ts ++ t ∷ []) → reporting tools t.tools ≡ false
none_last tools [] t h = h.0
none_last tools (x ∷ ts) t h = none_last tools ts t h.1

apart : true ≡ false → ⊥
apart e = let z : ◌≡◌ {A = ℕ} 0 1 = cc in omega arith

none_found : {K : Type 0} (tools : Option Tools) (ts : List (Trial K)) → None ≡ find (λ t. reporting tools t.tools) ts → NoneReports tools ts
none_found tools [] e = tt
none_found tools (t ∷ ts) e = by (reporting tools t.tools) refl e (none_found tools ts)
  where
    by : (b : Bool) → reporting tools t.tools ≡ b → None ≡ cond b (Some t) (find (λ x. reporting tools x.tools) ts) → (None ≡ find (λ x. reporting tools x.tools) ts → NoneReports tools ts) → NoneReports tools (t ∷ ts)
    by true is e rest = cc
    by false is e rest = (is, rest e)

some_found : {K : Type 0} (tools : Option Tools) (ts : List (Trial K)) (x : Trial K) → Some x ≡ find (λ t. reporting tools t.tools) ts → reporting tools x.tools ≡ true
some_found tools [] x e = cc
some_found tools (t ∷ ts) x e = by (reporting tools t.tools) refl e (some_found tools ts x)
  where
    by : (b : Bool) → reporting tools t.tools ≡ b → Some x ≡ cond b (Some t) (find (λ y. reporting tools y.tools) ts) → (Some x ≡ find (λ y. reporting tools y.tools) ts → reporting tools x.tools ≡ true) → reporting tools x.tools ≡ true
    by true is e rest = let same : x ≡ t = cc in subst (λ y. reporting tools y.tools ≡ true) (sym same) is
    by false is e rest = rest e

-- what `find` answers
pub found : {K : Type 0} (tools : Option Tools) (ts : List (Trial K)) (r : Option (Bor (Trial K))) → option_map (λ t. t.now) r ≡ find (λ t. reporting tools t.tools) ts
    → MatchOption r (NoneReports tools ts) (λ t. reporting tools t.now.tools ≡ true)
found tools ts None e = none_found tools ts e
found tools ts (Some x) e = some_found tools ts x.now e

module _ {K : Type 0} (kind : Kind K) (s : Sheet K) where
  each_push : (tools : Tools) (ts : List (Trial K)) (t : Trial K) → SheetTried kind s tools t → EachTried kind s ts → EachTried kind s (ts ++ t ∷ [])
  each_push tools [] t h e = (subst (λ x. SheetTried kind s x t) (sym h.with_tools) h, tt)
  each_push tools (x ∷ ts) t h e = (e.0, each_push tools ts t h e.1)

  pub added : (tools : Tools) (ts ts' : List (Trial K)) (t : Trial K) → SheetTried kind s tools t → ts' ≡ ts ++ t ∷ [] → Added kind s tools ts ts'
  added tools ts ts' t h is =
      subst (Added kind s tools ts) (sym is) (record {
        grown = record { each = each_push tools ts t h; kept = λ x some none. some (none_before x ts t none) };
        calls = λ none. apart (none_last None ts t none);
        plans = λ none. apart (sym (itself tools) ∙ ap (same_tools tools) (sym h.with_tools) ∙ none_last (Some tools) ts t none);
      })

  pub grown_none : (ts : List (Trial K)) → Grown kind s ts ts
  grown_none ts = record { each = λ e. e; kept = λ x h. h }

  grown_more : (ts us vs : List (Trial K)) → Grown kind s ts us → Grown kind s us vs → Grown kind s ts vs
  grown_more ts us vs g h = record { each = λ e. h.each (g.each e); kept = λ x some. h.kept x (g.kept x some) }

  reported_more : (tools : Tools) (us vs : List (Trial K)) → Grown kind s us vs → Reported s us tools → Reported s vs tools
  reported_more tools us vs g r = λ is. g.kept (Some tools) (r is)

  -- plans with these estimators are reported
  abbrev pub EachReported : QueueChoice → List EstimatorChoice → List (Trial K) → Type 0
  EachReported queue [] ts = Unit {0}
  EachReported queue (e ∷ es) ts = Reported s ts (record { queue = queue; estimator = e }) × EachReported queue es ts

  -- the trials have grown, and report what plans with the queue and these estimators got
  pub record GrownWith (queue : QueueChoice) (es : List EstimatorChoice) (ts us : List (Trial K)) : Type 0 where
    pub grown : Grown kind s ts us
    pub reports : EachReported queue es us

  pub with_none : (queue : QueueChoice) (ts : List (Trial K)) → GrownWith queue [] ts ts
  with_none queue ts = record { grown = grown_none ts; reports = tt }

  each_more : (queue : QueueChoice) (e : EstimatorChoice) (es : List EstimatorChoice) (us vs : List (Trial K)) → Grown kind s us vs → EachReported queue es us → Reported s vs (record { queue = queue; estimator = e }) → EachReported queue (es ++ e ∷ []) vs
  each_more queue e [] us vs g r h = (h, tt)
  each_more queue e (x ∷ es) us vs g r h = (reported_more _ us vs g r.0, each_more queue e es us vs g r.1 h)

  pub with_more : (queue : QueueChoice) (e : EstimatorChoice) (es : List EstimatorChoice) (ts us vs : List (Trial K)) → GrownWith queue es ts us → GrownBy kind s (record { queue = queue; estimator = e }) us vs → GrownWith queue (es ++ e ∷ []) ts vs
  with_more queue e es ts us vs a b = record { grown = grown_more ts us vs a.grown b.grown; reports = each_more queue e es us vs b.grown a.reports b.reports }

  pub with_all : (queue : QueueChoice) (ts us : List (Trial K)) → GrownWith queue (Silent ∷ Farthest ∷ Larger ∷ []) ts us → GrownFor kind s queue ts us
  with_all queue ts us a = record { grown = a.grown; reports = by }
    where
      by : (e : EstimatorChoice) → Reported s us (record { queue = queue; estimator = e })
      by Silent = a.reports.0
      by Farthest = a.reports.1.0
      by Larger = a.reports.1.1.0

  pub by_both : (ts us : List (Trial K)) → GrownFor kind s Row [] ts → GrownFor kind s Heap ts us → Named kind s us
  by_both ts us a b = record { each = b.grown.each (a.grown.each tt); plans = λ tools. by tools.queue tools.estimator }
    where
      by : (q : QueueChoice) (e : EstimatorChoice) → Reported s us (record { queue = q; estimator = e })
      by Row e = reported_more _ ts us b.grown (a.reports e)
      by Heap e = b.reports e

  pub all_named : (ts : List (Trial K)) → (SomeReports None ts) → Named kind s ts → Trials kind s ts
  all_named ts some n = record { each = n.each; calls = some; plans = n.plans }

  pub with_usual : (tools : Tools) (ts us : List (Trial K)) → Named kind s ts → Added kind s tools ts us → Trials kind s us
  with_usual tools ts us n a = record { each = a.grown.each n.each; calls = a.calls; plans = λ x. reported_more x ts us a.grown (n.plans x) }

  -- where there is a trial
  pub some_trial : (ts : List (Trial K)) → eqb (length ts) 0 ≡ false → SomeReports None ts
  some_trial [] e h = apart e
  some_trial (t ∷ ts) e h = apart h.0
