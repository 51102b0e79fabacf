-- Trees that are the same but for the kinds of the names `async` in them.
use Rattle.std.specs.Prelude.{List, [], ◌∷◌, IsTrue}
use Rattle.swc_tree_marks.specs.declared.ident.Ident.{Ident}
use Rattle.swc_tree_node.specs.declared.kind.Kind.{Kind}
use Rattle.swc_tree_node.specs.declared.kind.Kind.TheVariants as kind
use Rattle.swc_tree_node.specs.declared.node.Node.{Node, List as Many, Identifier, Tree}
use Rattle.swc_tree_grammar.specs.Grammar.{is_async_name}

mutual
  pub data Alike : Node → Node → Type 0 where
    same : (t : Node) → Alike t t
    after : {t u v : Node} → Alike t u → Alike u v → Alike t v
    name : (k l : Kind) (i : Ident) → IsTrue (is_async_name (Identifier kind.Ident i)) → Alike (Identifier k i) (Identifier l i)
    list : (ts us : List Node) → AllAlike ts us → Alike (Many ts) (Many us)
    tree : (k : Kind) (ts us : List Node) → AllAlike ts us → Alike (Tree k ts) (Tree k us)

  pub data AllAlike : List Node → List Node → Type 0 where
    none : AllAlike [] []
    more : {t u : Node} {ts us : List Node} → Alike t u → AllAlike ts us → AllAlike (t ∷ ts) (u ∷ us)
