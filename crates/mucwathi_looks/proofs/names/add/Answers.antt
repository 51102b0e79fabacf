use Rattle.std.proofs.Common.{inl, inr, refl, sym, ◌∙◌}
use Rattle.mucwathi_looks.proofs.LookedTexts.{adds_seen, adds_text}
use Rattle.mucwathi_looks.proofs.names.add.Goals as goal

pub returns-then-contains-clause-names : goal.returns-then-contains-clause-names
returns-then-contains-clause-names c = inl (sym c.contains.ensures ∙ c.if-contains.true, refl)

pub returns-then-contains-clause-seen : goal.returns-then-contains-clause-seen
returns-then-contains-clause-seen c = adds_seen _ _ (sym c.contains.ensures ∙ c.if-contains.true)

pub returns-clause-names : goal.returns-clause-names
returns-clause-names c =
    inr (sym c.contains.ensures ∙ c.if-contains.false, record { text = c.in_ok-copy.copy; at = c.bytes_before.result }, c.in_ok-copy.ensures.ok ∙ c.as_str.ensures, c.bytes_before.ensures, c.in_ok-push.ensures.items)

pub returns-clause-seen : goal.returns-clause-seen
returns-clause-seen c = adds_text _ _ _ c.in_ok-insert.ensures.updates
