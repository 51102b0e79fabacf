use Rattle.std.proofs.Common.{IsTrue, Some, None, sym, ◌∙◌}
use Rattle.swc_tree_scoping.specs.Scopes.{is_name}
use Rattle.swc_tree_walk.specs.Sites.{site_of}
use Rattle.swc_base_alpha.specs.Partners.{table_of}
use Rattle.swc_base_alpha.proofs.Tables.{known_agrees, looked_up, new_found, new_known}
use Rattle.swc_base_alpha.proofs.partners.Partners.see.Goals as goal

pub returns-in-Some-clause-agrees : goal.returns-in-Some-clause-agrees
returns-in-Some-clause-agrees c =
    let name : IsTrue (is_name c.args.one.now.standing) = sym c.is_name.ensures ∙ c.if-not-is_name.false in
    known_agrees (table_of c.args.self.now) (site_of c.args.one.now) (site_of c.args.other.now) c.in-Some.partner.now.now c.same_id.result name
    (looked_up c.args.self.now.by_id c.key_of-key.result c.args.one.now.ident.now c.key_of-key.ensures.context c.key_of-key.ensures.text (Some c.in-Some.partner.now) c.in-Some.ensures.value)
    c.same_id.ensures

pub returns-in_ok-insert-in-None-clause-next : goal.returns-in_ok-insert-in-None-clause-next
returns-in_ok-insert-in-None-clause-next c =
    let name : IsTrue (is_name c.args.one.now.standing) = sym c.is_name.ensures ∙ c.if-not-is_name.false in
    new_known (table_of c.args.self.now) (table_of (record { by_id = c.insert.new.self })) (site_of c.args.one.now) (site_of c.args.other.now) name
    (looked_up c.args.self.now.by_id c.key_of-key.result c.args.one.now.ident.now c.key_of-key.ensures.context c.key_of-key.ensures.text None c.in-None.ensures.value)
    (new_found c.args.self.now.by_id c.insert.new.self c.key_of-key.result c.args.other.now.ident c.args.one.now.ident.now c.key_of-key.ensures.context c.key_of-key.ensures.text c.in_ok-insert-in-None.ensures.updates)
