use Rattle.std.proofs.Common.{rules, ◌≡◌, ◌<◌, ◌≤◌, length, refl, sym, ◌∙◌, subst}
use Rattle.swc_base_alpha.proofs.Forms.{all_of, decides, leaves, list_case, name_case, one_more, one_there, tree_case}
use Rattle.swc_base_alpha.proofs.outline.+same_outline.Goals as goal

pub same_outline-returns-in-List-other : goal.same_outline-returns-in-List-other
same_outline-returns-in-List-other t c = list_case _ _ _ _ _ _ _ c.in-List.is c.in-List-other.is c.as_slice.ensures c.as_slice-in-List-other.ensures c.same_outlines.ensures

pub same_outline-returns-in-Identifier-other : goal.same_outline-returns-in-Identifier-other
same_outline-returns-in-Identifier-other t c = name_case _ _ _ _ _ _ _ c.in-Identifier.is c.in-Identifier-other.is c.eq.ensures

pub same_outline-returns-then-eq : goal.same_outline-returns-then-eq
same_outline-returns-then-eq t c = tree_case _ _ _ _ _ _ _ _ _ c.in-Tree.is c.in-Tree-other.is c.if-eq.ensures c.as_slice-then-eq.ensures c.as_slice-then-eq-2.ensures c.same_outlines-then-eq.ensures

pub same_outline-returns-in_default : goal.same_outline-returns-in_default
same_outline-returns-in_default t c =
    leaves _ _ (record { no_span = c.in_default.not-Span; no_list = c.in_default.not-List; no_name = c.in_default.not-Identifier; no_tree = c.in_default.not-Tree }) _
    (decides c.eq-in_default.result c.args.one.now c.args.other.now c.eq-in_default.ensures)

pub same_outlines-loop-i-init : goal.same_outlines-loop-i-init
same_outlines-loop-i-init t c = refl

pub same_outlines-returns-then-not-same_outline : goal.same_outlines-returns-then-not-same_outline
same_outlines-returns-then-not-same_outline t c =
    let long : length c.args.ones.now ≡ length c.args.others.now = search rules in
    (λ h. absurd (cc), λ e. sym c.if-not-same_outline.true ∙ c.same_outline.ensures.1 (one_there c.args.ones.now c.args.others.now c.loop-i.i c.index-ones-i.result c.index-others-i.result c.loop-i-test.true (subst (λ n. c.loop-i.i < n) long c.loop-i-test.true) c.index-ones-i.is c.index-others-i.is e))

pub same_outlines-loop-i-preserved : goal.same_outlines-loop-i-preserved
same_outlines-loop-i-preserved t c =
    let long : length c.args.ones.now ≡ length c.args.others.now = search rules in
    one_more c.args.ones.now c.args.others.now c.loop-i.i c.index-ones-i.result c.index-others-i.result c.loop-i-test.true (subst (λ n. c.loop-i.i < n) long c.loop-i-test.true) c.index-ones-i.is c.index-others-i.is c.loop-i.invariant (c.same_outline.ensures.0 c.if-not-same_outline.false)

pub same_outlines-returns : goal.same_outlines-returns
same_outlines-returns t c =
    let long : length c.args.ones.now ≡ length c.args.others.now = search rules in
    let whole : length c.args.ones.now ≤ c.loop-i.i = search rules in
    (λ h. all_of c.args.ones.now c.args.others.now c.loop-i.i whole (subst (λ n. n ≤ c.loop-i.i) long whole) c.loop-i.invariant, λ e. refl)
