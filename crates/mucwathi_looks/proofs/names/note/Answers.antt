use Rattle.std.proofs.Common.{◌≡◌, inr, refl, sym, ◌∙◌, subst}
use Rattle.swc_tree_walk.specs.Sites.{site_of}
use Rattle.mucwathi_looks.specs.Names.{is_marked}
use Rattle.mucwathi_looks.proofs.Noted.{noted_free}
use Rattle.mucwathi_looks.proofs.names.note.Goals as goal

pub returns-then-is_free : goal.returns-then-is_free
returns-then-is_free c =
    let told = subst (λ m. c.is_free.result ≡ is_marked m (site_of c.args.site)) c.unresolved.ensures c.is_free.ensures in
    noted_free (site_of c.args.site) _ _ _ _ c.add.result (sym told ∙ c.if-is_free.true) c.add.ensures.names c.add.ensures.seen

pub returns : goal.returns
returns c =
    let told = subst (λ m. c.is_free.result ≡ is_marked m (site_of c.args.site)) c.unresolved.ensures c.is_free.ensures in
    inr (sym told ∙ c.if-is_free.false, refl, refl)
