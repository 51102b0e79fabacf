-- A program takes all that is bound in it.
use Rattle.std.proofs.Common.{◌≡◌, ℕ, suc, false, not, inl, inr, None, List, [], ◌∷◌, ◌++◌, refl, ap, ◌∙◌}
use Rattle.std.specs.List.{filter}
use Rattle.swc_tree_node.specs.declared.kind.Kind.TheVariants as kind
use Rattle.swc_tree_node.specs.declared.node.Node.TheOpen.{Node-F}
use Rattle.swc_tree_scoping.specs.Places.{program_place}
use Rattle.swc_tree_renaming.proofs.Whole.{module_layer, script_layer}
use Rattle.swc_base_rename_analysis.specs.declared.scopes.ScopeKind.TheVariants.{Fn}
use Rattle.swc_base_renaming_laws.specs.Settled.{ProgramsTakeAll}
use Rattle.swc_base_renaming_laws.specs.Meetings.{Bound, Meeting, Met, both, enclosed, field_met, fields_where, takes_so}
use Rattle.swc_base_renaming_laws.proofs.Meets.{ins, kids, out_is, outs}

fields_none : (g : ℕ → Meeting → Met) (ms : List Meeting) → (fields_where (λ i. false) g ms).pending ≡ []
fields_none g [] = refl
fields_none g (m ∷ ms) = fields_none (λ i. g (suc i)) ms

filter_none : (xs : List Bound) → filter (λ b. not (takes_so Fn b.0)) xs ≡ []
filter_none [] = refl
filter_none (x ∷ xs) = filter_none xs

-- a function takes all that is bound in it
all_taken : (a b : Met) → a.pending ≡ [] → (both a (enclosed Fn None b)).pending ≡ []
all_taken a b h = ap (λ l. l ++ (enclosed Fn None b).pending) h ∙ filter_none b.pending

pub programs_take_all : ProgramsTakeAll
programs_take_all t (inl is_one) =
    let (ts, o) = module_layer t is_one in
    ap (λ (m : Met). m.pending) (out_is program_place t (Node-F.Tree kind.Module ts) false None o)
    ∙ all_taken (outs program_place kind.Module ts) (ins program_place kind.Module ts) (fields_none (field_met kind.Module ts) (kids program_place kind.Module ts))
programs_take_all t (inr is_one) =
    let (ts, o) = script_layer t is_one in
    ap (λ (m : Met). m.pending) (out_is program_place t (Node-F.Tree kind.Script ts) false None o)
    ∙ all_taken (outs program_place kind.Script ts) (ins program_place kind.Script ts) (fields_none (field_met kind.Script ts) (kids program_place kind.Script ts))
