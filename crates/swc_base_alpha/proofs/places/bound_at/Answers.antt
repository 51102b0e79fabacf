use Rattle.std.proofs.Common.{None, Some, sym, ◌∙◌}
use Rattle.swc_base_alpha.proofs.Found.{bound_found}
use Rattle.swc_base_alpha.proofs.places.bound_at.Goals as goal

pub returns-in-Some : goal.returns-in-Some
returns-in-Some c = bound_found c.args.other.now.ident.now.sym c.args.among.now (Some c.in-Some.site) (sym c.in-Some.is ∙ c.first_binding.ensures)

pub returns-in-None : goal.returns-in-None
returns-in-None c = bound_found c.args.other.now.ident.now.sym c.args.among.now None (sym c.in-None.is ∙ c.first_binding.ensures)
