-- What stands in a drawn tree, in the words of the definitions; and the trees of the rows.
use Rattle.std.proofs.Common.{◌≡◌, ℕ, Bool, true, false, IsTrue, Option, Some, List, [], refl, sym, ap, ◌∙◌, subst}
use Rattle.swc_tree_marks.specs.declared.ident.Ident.{Ident}
use Rattle.swc_tree_node.specs.declared.kind.Kind.{Kind}
use Rattle.swc_tree_node.specs.declared.kind.Kind.TheVariants as kind
use Rattle.swc_tree_node.specs.declared.kind.Word.{Word as Word'}
use Rattle.swc_tree_node.specs.declared.node.Node.{Node}
use Rattle.swc_tree_scoping.specs.declared.places.Standing.{Standing}
use Rattle.swc_tree_scoping.specs.declared.places.Place.{Place}
use Rattle.swc_tree_scoping.specs.Places.{Path, program_place}
use Rattle.swc_tree_scoping.specs.Scopes.{is_binding, taker}
use Rattle.swc_tree_scoping.specs.Declares.{Bound}
use Rattle.swc_tree_scoping.specs.Readings.{by_ids, by_texts, id_name}
use Rattle.swc_tree_scoping.specs.WellScoped.{Binds, Stands}
use Rattle.swc_tree_scoping_rows.proofs.Drawn.{Drawing, Drawing.none, Drawing.flag, Drawing.word, Drawing.span, Drawing.many, Drawing.name, Drawing.tree, Drawings, Drawings.end, Drawings.next, changed, changed_is, draw, stands_drawn, taker_drawn, taker_is}
use Rattle.swc_tree_scoping_rows.proofs.Names.{Every, every_name, names_in, stands_there}

-- two values that a test tells apart
pub apart_by : {X : Type 0} {x y : X} (f : X → Bool) → x ≡ y → f x ≡ true → f y ≡ false → ⊥
apart_by f e a b = let z : true ≡ false = sym a ∙ ap f e ∙ b in absurd (cc)

-- one at a time
pub each_stands : (e : Drawing) (P : Path → Standing → List ℕ → Type 0) → Every (λ q. P q.path q.place.standing q.identifier.sym) (names_in program_place e)
    → (p : Path) (r : Standing) (x : List ℕ) → Stands (draw e) p r x → P p r x
each_stands e P h p r x s =
    subst (λ x. P p r x) s.named (subst (λ r. P p r s.identifier.sym) s.stands_so (every_name e (λ q. P q.path q.place.standing q.identifier.sym) h p s.place s.kind s.identifier s.stands))

pub each_binds : (e : Drawing) (P : Path → Standing → List ℕ → Type 0) → Every (λ q. IsTrue (is_binding q.place.standing) → P q.path q.place.standing q.identifier.sym) (names_in program_place e)
    → (p : Path) (r : Standing) (x : List ℕ) → Binds (draw e) p r x → P p r x
each_binds e P h p r x b = each_stands e (λ p r x. IsTrue (is_binding r) → P p r x) h p r x b.at b.binds

pub stands_of_bound : {t : Node} {s : Path} {r : Standing} {x : List ℕ} → (b : Bound t s r x) → Stands t b.path r x
stands_of_bound b = record { place = b.place; kind = b.kind; identifier = b.identifier; stands = b.stands; stands_so = b.stands_so; named = b.named }

-- what is bound is taken by the scope
pub each_bound : (e : Drawing) (s : Path) (P : Standing → List ℕ → Type 0) → Every (λ q. taker_drawn q.place.standing e q.path ≡ Some s → P q.place.standing q.identifier.sym) (names_in program_place e)
    → (r : Standing) (x : List ℕ) → Bound (draw e) s r x → P r x
each_bound e s P h r x b = each_stands e (λ p r x. taker_drawn r e p ≡ Some s → P r x) h b.path r x (stands_of_bound b) (sym (taker_is r e b.path) ∙ b.taken)

-- a name stands so, is bound so, is bound so in a scope
abbrev pub stands : (e : Drawing) (p : Path) (w : Place) (k : Kind) (i : Ident) → stands_drawn program_place e p ≡ Some (w, name k i) → Stands (draw e) p w.standing i.sym
stands e p w k i h = record { place = w; kind = k; identifier = i; stands = stands_there e p w k i h; stands_so = refl; named = refl }

pub binds : (e : Drawing) (p : Path) (w : Place) (k : Kind) (i : Ident) → stands_drawn program_place e p ≡ Some (w, name k i) → is_binding w.standing ≡ true → Binds (draw e) p w.standing i.sym
binds e p w k i h b = record { at = stands e p w k i h; binds = b }

pub is_bound : (e : Drawing) (s p : Path) (w : Place) (k : Kind) (i : Ident) → stands_drawn program_place e p ≡ Some (w, name k i) → taker_drawn w.standing e p ≡ Some s → i.ctxt ≡ []
    → Bound (draw e) s w.standing i.sym
is_bound e s p w k i h f n = record {
  path = p;
  place = w;
  kind = k;
  identifier = i;
  stands = stands_there e p w k i h;
  stands_so = refl;
  named = refl;
  unmarked = n;
  taken = taker_is w.standing e p ∙ f;
}

pub taken : (e : Drawing) (r : Standing) (p : Path) (o : Option Path) → taker_drawn r e p ≡ o → taker r (draw e) p ≡ o
taken e r p o h = taker_is r e p ∙ h

-- read by ids, by texts
abbrev pub ids : Drawing → Drawing
ids = changed (λ i. record i { sym = id_name i; ctxt = [] })

abbrev pub texts : Drawing → Drawing
texts = changed (λ i. record i { ctxt = [] })

pub ids_are : (d : Drawing) → by_ids (draw d) ≡ draw (ids d)
ids_are d = changed_is _ d

pub texts_are : (d : Drawing) → by_texts (draw d) ≡ draw (texts d)
texts_are d = changed_is _ d

-- trees
abbrev pub one : Drawing → Drawings
one d = next d end

abbrev pub two : Drawing → Drawing → Drawings
two d e = next d (one e)

abbrev pub module_of : Drawings → Drawing
module_of ds = tree kind.Module (next span (two (many ds) none))

abbrev pub identifier : List ℕ → List ℕ → Ident
identifier text context = record { span = record { lo = 0; hi = 0 }; ctxt = context; sym = text }

-- `a;`
abbrev pub use_of : Ident → Drawing
use_of i = tree kind.ExprStmt (two span (name kind.Ident i))

-- `let a;`, `var a;`
abbrev pub declaration : Word' → Ident → Drawing
declaration w i = tree kind.VarDecl (next span (two (word w) (many (one (tree kind.VarDeclarator (next span (two (name kind.BindingIdent i) none)))))))

-- `{ .. }`
abbrev pub block : Drawings → Drawing
block ds = tree kind.BlockStmt (two span (many ds))

-- `export { a };`
abbrev pub export_of : Ident → Drawing
export_of i = tree kind.NamedExport (next span (next (many (one (tree kind.ExportNamedSpecifier (next span (two (name kind.Ident i) none))))) (two none none)))

-- `try {} catch (a) { .. }`
abbrev pub try_catch : Ident → Drawings → Drawing
try_catch i ds = tree kind.TryStmt (next span (next (block end) (two (tree kind.CatchClause (next span (two (name kind.BindingIdent i) (block ds)))) none)))

-- `(a, b) => {};`
abbrev pub arrow : Ident → Ident → Drawing
arrow i j = tree kind.ExprStmt (two span (tree kind.ArrowExpr (next span (next (many (two (name kind.BindingIdent i) (name kind.BindingIdent j))) (two (block end) (flag false))))))

abbrev pub at : Standing → Place
at r = record { standing = r; strict = true; nested = false }

abbrev pub in_block : Standing → Place
in_block r = record { standing = r; strict = true; nested = true }
