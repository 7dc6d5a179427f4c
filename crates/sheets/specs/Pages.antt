-- The district at hand, line by line. Assumes nothing.
use Rattle.std.specs.Prelude.{◌≡◌, ℕ, Some, None, vec_len, Option}
use Rattle.network.specs.declared.money.Money.{Money as Sum}
use Rattle.network.specs.declared.crossings.CrossingsFirst.{CrossingsFirst}
use Rattle.commands.specs.declared.command.CostKind.{CostKind}
use Rattle.commands.specs.declared.command.CostKind.TheVariants.{Money as InMoney, Crossings as InCrossings}
use Rattle.commands.specs.declared.command.Call.{Call as Line}
use Rattle.commands.specs.declared.command.Command.{Command}
use Rattle.commands.specs.declared.command.Command.TheVariants.{Nothing, District, Call}
use Rattle.commands.specs.Commands.{bind}
use Rattle.sheets.specs.declared.page.Page.{Page}
use Rattle.sheets.specs.declared.page.Page.TheVariants.{Money, Crossings}
use Rattle.sheets.specs.declared.sheet.Sheet.{Sheet}
use Rattle.sheets.specs.declared.sheet.Entry.{Entry}
use Rattle.sheets.specs.declared.sheet.Entry.TheVariants.{NotUnderstood}
use Rattle.commands.specs.declared.command.Figure.{Figure}
use Rattle.requests.specs.Attempts.{money_written, crossings_written}
use Rattle.requests.specs.Requests.{request_of}
use Rattle.sheets.specs.Sheets.{Fresh, Noted, entry_of}

-- a fresh district, in the kind of cost that its line says
abbrev pub FreshPage : ℕ → ℕ → CostKind → Page → Type 0
FreshPage n capacity InMoney p = (s : Sheet Sum) × (p ≡ Money s) × Fresh n capacity s
FreshPage n capacity InCrossings p = (s : Sheet CrossingsFirst) × (p ≡ Crossings s) × Fresh n capacity s

-- the entry of a line, and what it asks for, by what it calls for, if it was understood
abbrev pub entry_by : {K : Type 0} → (Figure → Option K) → ℕ → Option Line → ℕ → Entry K
entry_by written line None before = NotUnderstood line
entry_by written line (Some call) before = entry_of written line call before

abbrev pub NotedBy : {K : Type 0} → (Figure → Option K) → ℕ → Option Line → Sheet K → Sheet K → Type 0
NotedBy written line call s u = Noted s u (entry_by written line call (vec_len s.requests)) (bind call (λ c. request_of written c (vec_len s.requests)))

-- the same district, with one line more
abbrev pub PageNoted : Page → Page → ℕ → Option Line → Type 0
PageNoted (Money s) p line call = (u : Sheet Sum) × (p ≡ Money u) × NotedBy money_written line call s u
PageNoted (Crossings s) p line call = (u : Sheet CrossingsFirst) × (p ≡ Crossings u) × NotedBy crossings_written line call s u

-- the district at hand before and after a line, by its number and what it says; a line without a district leaves none at hand
abbrev pub Read : ℕ → Option Command → Option Page → Option Page → Type 0
Read line (Some Nothing) p q = q ≡ p
Read line (Some (District n capacity kind)) p q = (u : Page) × (q ≡ Some u) × FreshPage n capacity kind u
Read line (Some (Call call)) None q = q ≡ None
Read line (Some (Call call)) (Some p) q = (u : Page) × (q ≡ Some u) × PageNoted p u line (Some call)
Read line None None q = q ≡ None
Read line None (Some p) q = (u : Page) × (q ≡ Some u) × PageNoted p u line None
