use Rattle.std.proofs.Common.{sym}
use Rattle.std.proofs.lemmas.List.{set_past}
use Rattle.oracle.proofs.costs.lower.Goals as goal

pub returns-else-i-row : goal.returns-else-i-row
returns-else-i-row g c = sym (set_past _ _ _ c.if-i-row.false)
