use Rattle.std.proofs.Common.{IsTrue, ap, map, subst, sym, ◌∙◌}
use Rattle.swc_tree_walk.specs.Sites.{site_of}
use Rattle.swc_base_alpha.specs.Judged.{Concludes}
use Rattle.swc_base_alpha.proofs.Judged.{one_length}
use Rattle.swc_base_alpha.proofs.Showing.{names_show}
use Rattle.swc_base_alpha.proofs.Words.{concluded}
use Rattle.swc_base_alpha.proofs.judging.names_differ.Goals as goal

pub are_caught-requires-clause-first : goal.are_caught-requires-clause-first
are_caught-requires-clause-first c = ap (map site_of) c.as_slice.ensures.value ∙ c.in_ok-ones.ensures.all

pub are_caught-requires-clause-second : goal.are_caught-requires-clause-second
are_caught-requires-clause-second c = ap (map site_of) c.as_slice-2.ensures.value ∙ c.in_ok-others.ensures.all

pub sites_differ-requires : goal.sites_differ-requires
sites_differ-requires c =
    one_length c.in_ok-first.first c.in_ok-second.second c.as_slice-3.result.now c.as_slice-4.result.now (c.in_ok-first.ensures.outline ∙ c.requires ∙ sym c.in_ok-second.ensures.outline)
    (ap (map site_of) c.as_slice-3.ensures.value ∙ c.in_ok-ones.ensures.all) (ap (map site_of) c.as_slice-4.ensures.value ∙ c.in_ok-others.ensures.all)

pub returns-clause-decides : goal.returns-clause-decides
returns-clause-decides c = λ here there.
    let own = c.in_ok-first.ensures.resolved here.no_types here.opens in
    let own_too = c.in_ok-second.ensures.resolved there.no_types there.opens in
    subst (Concludes c.args.keep_top (IsTrue c.args.reads) c.args.first c.args.second) (sym c.in_ok-cause.ensures.word)
    (concluded c.args.first c.args.second c.in_ok-first.first c.in_ok-second.second (record { keep_top = c.args.keep_top; reads = c.args.reads; caught = c.in_ok-caught.caught }) here there c.requires own own_too (c.in_ok-caught.ensures c.args.first c.args.second here there own own_too)
    (map site_of c.as_slice-3.result.now) (map site_of c.as_slice-4.result.now) (ap (map site_of) c.as_slice-3.ensures.value ∙ c.in_ok-ones.ensures.all) (ap (map site_of) c.as_slice-4.ensures.value ∙ c.in_ok-others.ensures.all)
    c.in_ok-found.found c.in_ok-found.ensures)

pub returns-clause-shows : goal.returns-clause-shows
returns-clause-shows c = λ here there.
    names_show c.args.unplaced c.args.first c.args.second c.in_ok-first.first c.in_ok-second.second (c.in_ok-first.ensures.resolved here.no_types here.opens) (c.in_ok-second.ensures.resolved there.no_types there.opens)
    (record { keep_top = c.args.keep_top; reads = c.args.reads; caught = c.in_ok-caught.caught }) c.as_slice-3.result.now c.as_slice-4.result.now c.as_slice-5.result.now c.as_slice-6.result.now c.in_ok-found.found c.in_ok-cause.cause
    (c.in_ok-first.ensures.outline ∙ c.requires ∙ sym c.in_ok-second.ensures.outline) (ap (map site_of) c.as_slice-3.ensures.value ∙ c.in_ok-ones.ensures.all) (ap (map site_of) c.as_slice-4.ensures.value ∙ c.in_ok-others.ensures.all)
    (ap (map site_of) c.as_slice-5.ensures.value ∙ c.in_ok-ones.ensures.all) (ap (map site_of) c.as_slice-6.ensures.value ∙ c.in_ok-others.ensures.all) c.in_ok-found.ensures c.in_ok-cause.ensures.shown
