use Rattle.std.proofs.Common.{◌≡◌, ◌+◌, length, refl, sym, ◌∙◌, arith}
use Rattle.std.proofs.lemmas.Option.{slice_get_read}
use Rattle.swc_base_writable_rules.specs.Rounds.{round_of}
use Rattle.swc_base_writable_rules.proofs.Elements.{before_end, passed, unequal}
use Rattle.swc_base_writable_rules.proofs.patterns.are_elements.Goals as goal

pub loop-i-preserved : goal.loop-i-preserved
loop-i-preserved c =
    let here = slice_get_read c.args.nodes.now _ c.loop-i.i c.index-nodes-i.result refl (omega arith) c.index-nodes-i.is in
    c.loop-i.invariant ∙ passed (round_of c.args.round) c.args.nodes.now c.loop-i.i c.index-nodes-i.result here (sym c.is_element.ensures ∙ c.if-not-is_element.false)

pub returns-else-i-nodes : goal.returns-else-i-nodes
returns-else-i-nodes c =
    let here = slice_get_read c.args.nodes.now _ c.loop-i.i c.index-nodes-i.result refl (omega arith) c.index-nodes-i.is in
    let apart : c.loop-i.i + 1 ≡ length c.args.nodes.now → ⊥ = λ e. omega (arith, e) in
    unequal (c.loop-i.i + 1) (length c.args.nodes.now) _ apart
    (before_end (round_of c.args.round) c.args.nodes.now c.loop-i.i c.index-nodes-i.result here (sym c.is_element.ensures ∙ c.if-not-is_element.true) apart ∙ sym c.loop-i.invariant)
