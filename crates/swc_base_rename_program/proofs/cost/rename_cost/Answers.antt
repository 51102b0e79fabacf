use Rattle.std.proofs.Common.{◌≡◌, length, take, ap, ◌∙◌, arith}
use Rattle.std.specs.List.{list_any}
use Rattle.swc_base_rename_naming_laws.proofs.Lists.{whole_taken}
use Rattle.swc_base_rename_program.proofs.Costs.{counted_by, is_sited}
use Rattle.swc_base_rename_program.proofs.cost.rename_cost.Goals as goal

pub returns : goal.returns
returns c =
    let a = c.args.analysis.now in
    let sites = c.as_slice-site-items.result.now in
    let end : c.loop-site.site-index ≡ length sites = omega (arith, c.loop-site-test.false, c.loop-site.auto.site-index-end) in
    let all : take c.loop-site.site-index sites ≡ a.sites.items = ap (λ n. take n sites) end ∙ whole_taken sites ∙ c.as_slice-site-items.ensures.value in
    counted_by a c.args.scope c.len.result c.loop-site.ids c.len.ensures.ordered (λ id. c.loop-site.invariant id ∙ ap (list_any (is_sited a c.args.scope id)) all) c.len.ensures.len
