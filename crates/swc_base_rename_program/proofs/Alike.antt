-- Names are the same by two ways to say which texts are preserved.
use Rattle.std.proofs.Common.{◌↔◌, ℕ, Option, List}
use Rattle.swc_tree_node.specs.declared.node.Node.{Node}
use Rattle.swc_tree_scoping.specs.BoundNames.{Id}
use Rattle.swc_base_rename_analysis.specs.Named.{Counting, IsFreeText, IsLeast, IsSpent, Named, Renaming}
use Rattle.swc_base_rename_analysis.specs.Order.{Site}

free_alike : {P Q : List ℕ → Type 0} → ((text : List ℕ) → Q text → P text) → (t : Node) (r : Renaming) (counts : Counting) (taken : Id → ℕ) (a : Site) (text : List ℕ)
    → IsFreeText t r P counts taken a text → IsFreeText t r Q counts taken a text
free_alike h t r counts taken a text f = record { not_preserved = λ q. f.not_preserved (h text q); not_held = f.not_held }

module _ {P Q : List ℕ → Type 0} (same : (text : List ℕ) → P text ↔ Q text) (t : Node) (r : Renaming) where
  least_alike : (counts : Counting) (taken : Id → ℕ) (a : Site) (x : Id) → IsLeast t r P counts taken a x → IsLeast t r Q counts taken a x
  least_alike counts taken a x l = record {
    within = l.within;
    from_start = l.from_start;
    free = free_alike (λ text. (same text).1) t r counts taken a (r.text x (taken x)) l.free;
    least = λ n below from free. l.least n below from (free_alike (λ text. (same text).0) t r counts taken a (r.text x n) free);
  }

  pub named_alike : (counts : Counting) (new_texts : Id → Option (List ℕ)) → Named t r P counts new_texts → Named t r Q counts new_texts
  named_alike counts new_texts n = record {
    taken = n.taken;
    each = λ a x h. (let (least, is) = n.each a x h in (least_alike counts n.taken a x least, is));
    no_other = n.no_other;
  }

  pub spent_alike : (counts : Counting) (bound : ℕ) → IsSpent t r P counts bound → IsSpent t r Q counts bound
  spent_alike counts bound s = record {
    taken = s.taken;
    site = s.site;
    id = s.id;
    named = s.named;
    earlier = λ b y h. least_alike counts s.taken b y (s.earlier b y h);
    none_free = λ n below from free. s.none_free n below from (free_alike (λ text. (same text).0) t r counts s.taken s.site (r.text s.id n) free);
  }
