-- Words say of their bytes what the definition says of each.
use Rattle.record.proofs.Ruling.{rule_primitive, rule_nested}
use Rattle.std.proofs.Common.{refl}
use Rattle.record.proofs.bytes_ok.Goals as goal

pub returns-then-kind-eq0 : goal.returns-then-kind-eq0
returns-then-kind-eq0 c = rule_primitive _ _ _ _ _ refl c.le32-head.ensures c.le32-kids.ensures (λ i. (c.type_inv.recs i).fits) _ _ c.if-kind-eq0.true c.from.ensures c.from-then-kind-eq0.ensures

pub returns : goal.returns
returns c = rule_nested _ _ _ _ _ refl c.le32-head.ensures c.le32-kids.ensures (λ i. (c.type_inv.recs i).fits) _ _ c.if-kind-eq0.false c.le32-code.ensures c.from-2.ensures
