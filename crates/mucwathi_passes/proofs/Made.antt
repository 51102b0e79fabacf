-- What the passes make, whatever they answer.
use Rattle.std.proofs.Common.{◌≡◌, ◌⊎◌, ◌↔◌, false, ℕ, sym, subst, Result, Ok, Err, IfOk, IfErr, IsErrAnd, MatchResult}
use Rattle.swc_tree_marks.specs.Globals.{Table}
use Rattle.swc_tree_marks.specs.declared.error.PassError.{PassError}
use Rattle.swc_tree_marks.specs.declared.error.PassError.TheVariants as refusal
use Rattle.swc_tree_node.specs.declared.node.Node.{Node}
use Rattle.swc_tree_grammar.specs.Blocks.{with_blocks}
use Rattle.swc_tree_grammar.specs.Stripped.{stripped}
use Rattle.swc_tree_grammar.specs.Targets.{all_bare}
use Rattle.swc_base_fixer_program.specs.Answers.{answer_to}
use Rattle.swc_base_mangle.specs.Mangled.{IsMangled, IsMangleRefusal}
use Rattle.swc_base_mangle.specs.Lower.swc_base_rename_program.specs.Renamed.{IsHygienic, IsRenameRefusal, hygiene_renaming}
use Rattle.swc_base_resolver_program.specs.Marked.{MarksOk}
use Rattle.mucwathi_settings.specs.declared.command.Settings.{Settings}
use Rattle.mucwathi_passes.specs.Passes.{IsApart, IsApartRefusal, IsBared, IsPaired, IsPairRefusal, IsRefusedInTurn, IsRenamedAndPaired, IsResolved, IsShort, IsShortRefusal, config_of, own_table}
use Rattle.mucwathi_passes.proofs.Marks.{own_marks_ok}
use Rattle.mucwathi_passes.proofs.Refusals.{apart_refused, chain_refused_then, mangle_refused_then, pair_refused, short_refused, true_unless}

-- what holds of marks that are known holds of the two
pub by_own : (P : ℕ → ℕ → Table → Type 0) (old : Table) (a b : ℕ) → old ≡ own_table → a ≡ 1 → b ≡ 2 → (MarksOk old a b → P a b old) → P 1 2 own_table
by_own P old a b is one two h =
    let given : MarksOk old a b = subst (λ old. MarksOk old a b) (sym is) (subst (λ a. MarksOk own_table a b) (sym one) (subst (λ b. MarksOk own_table 1 b) (sym two) own_marks_ok)) in
    subst (λ old. P 1 2 old) is (subst (λ b. P 1 b old) two (subst (λ a. P a b old) one (h given)))

pub apart_made : (s : Settings) (t : Node) (table : Table) (resolved : Node) (r : Result Node PassError) → IsResolved t table resolved → IfOk r (IsHygienic table (config_of s) resolved)
    → IfErr r (IsRenameRefusal table (config_of s) hygiene_renaming resolved) → MatchResult r (IsApart s t) (IsApartRefusal s t)
apart_made s t table resolved (Ok u) is made refused = record { table = table; resolved = resolved; is_resolved = is; hygienic = made }
apart_made s t table resolved (Err e) is made refused = apart_refused s t table resolved is e refused

pub short_made : (s : Settings) (t : Node) (table : Table) (resolved : Node) (r : Result Node PassError) → IsResolved t table resolved → IfOk r (IsMangled table (config_of s) s.keep_top resolved)
    → IfErr r (IsMangleRefusal table (config_of s) s.keep_top resolved) → MatchResult r (IsShort s t) (IsShortRefusal s t)
short_made s t table resolved (Ok u) is made refused = record { table = table; resolved = resolved; is_resolved = is; mangled = made }
short_made s t table resolved (Err e) is made refused = short_refused s t table resolved is e refused

pub paired_made : (t : Node) (r : Result Node PassError) → IfOk r (λ u. u ≡ answer_to t) → IsErrAnd r (λ e. e ≡ refusal.NotAssignable) ↔ (all_bare t ≡ false) → IfErr r (λ e. (e ≡ refusal.NotAssignable) ⊎ (e ≡ refusal.NoMemory))
    → MatchResult r (IsPaired t) (IsPairRefusal t)
paired_made t (Ok u) made bare refused = (true_unless (all_bare t) bare.1, made)
paired_made t (Err e) made bare refused = pair_refused t e bare.0 refused

pub bared_made : (t : Node) (r : Result Node PassError) → IfOk r (λ u. u ≡ with_blocks (stripped t)) → IsErrAnd r (λ e. e ≡ refusal.NotAssignable) ↔ (all_bare t ≡ false) → IfErr r (λ e. (e ≡ refusal.NotAssignable) ⊎ (e ≡ refusal.NoMemory))
    → MatchResult r (IsBared t) (IsPairRefusal t)
bared_made t (Ok u) made bare refused = (true_unless (all_bare t) bare.1, made)
bared_made t (Err e) made bare refused = pair_refused t e bare.0 refused

pub chain_made : (s : Settings) (t renamed : Node) (r : Result Node PassError) → IsApart s t renamed → MatchResult r (IsPaired renamed) (IsPairRefusal renamed)
    → MatchResult r (IsRenamedAndPaired (IsApart s) t) (IsRefusedInTurn (IsApartRefusal s) (IsApart s) t)
chain_made s t renamed (Ok u) is h = record { renamed = renamed; is_renamed = is; paired = h }
chain_made s t renamed (Err e) is h = chain_refused_then s t renamed is e h

pub mangle_made : (s : Settings) (t renamed : Node) (r : Result Node PassError) → IsShort s t renamed → MatchResult r (IsPaired renamed) (IsPairRefusal renamed)
    → MatchResult r (IsRenamedAndPaired (IsShort s) t) (IsRefusedInTurn (IsShortRefusal s) (IsShort s) t)
mangle_made s t renamed (Ok u) is h = record { renamed = renamed; is_renamed = is; paired = h }
mangle_made s t renamed (Err e) is h = mangle_refused_then s t renamed is e h
