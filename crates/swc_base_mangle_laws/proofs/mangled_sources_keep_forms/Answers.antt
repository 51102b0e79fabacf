use Rattle.swc_base_mangle_laws.proofs.Mangled.{keeps_forms}
use Rattle.swc_base_mangle_laws.proofs.mangled_sources_keep_forms.Goals as goal

pub returns : goal.returns
returns c = keeps_forms c.resolved_sources_have_their_form.ensures c.lawful_renamers_keep_forms_of_sources.ensures
