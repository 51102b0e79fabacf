-- The members of an object.
use Rattle.std.proofs.Common.{◌≡◌, ◌≤◌, ℕ, List, Bool, true, false, cond, Option, Some, None, bytes_eq, unwrap_or, refl, ap, ◌∙◌, arith}
use Rattle.json.specs.Json.{Json, null, boolean, number, string, array, object, Members, no_members, member}
use Rattle.json.specs.Find.{get, get_member, later_or}
use Rattle.json.specs.Tree.{depth, members_depth}
use Rattle.swc_tree_marks.specs.Globals.{Table}
use Rattle.swc_tree_node.specs.declared.slot.Slot.{Slot}
use Rattle.jsbase_form.specs.Trees.{members_seen, null_as, seen}
use Rattle.jsbase_form.proofs.Members.{member_seen}
use Rattle.jsbase_reader.specs.Parts.{members_in}

pub got : (k : List ℕ) (d : Json) → get k d ≡ get_member k (members_in d)
got k null = refl
got k (boolean b) = refl
got k (number s) = refl
got k (string s) = refl
got k (array js) = refl
got k (object ms) = refl

pub found_there : (table : Table) (ms : Members) (k : List ℕ) (s : Slot) (d : Json) → get_member k ms ≡ Some d → members_seen table ms k s ≡ seen table d s
found_there table ms k s d h = member_seen table ms k s ∙ ap (λ o. seen table (unwrap_or o null) s) h

pub nothing_there : (table : Table) (ms : Members) (k : List ℕ) (s : Slot) → get_member k ms ≡ None → members_seen table ms k s ≡ null_as s
nothing_there table ms k s h = member_seen table ms k s ∙ ap (λ o. seen table (unwrap_or o null) s) h

later_depth : (o : Option Json) (b : Bool) (e d : Json) (n : ℕ) → ((x : Json) → o ≡ Some x → depth x ≤ n) → depth e ≤ n → later_or o (cond b (Some e) None) ≡ Some d → depth d ≤ n
later_depth (Some x) b e d n each one h = each d h
later_depth None true e d n each one h = let same : e ≡ d = cc in let deep = ap depth same in omega arith
later_depth None false e d n each one h = absurd (cc)

-- a member nests no deeper than all of them
pub member_depth : (k : List ℕ) (ms : Members) (d : Json) → get_member k ms ≡ Some d → depth d ≤ members_depth ms
member_depth k no_members d h = absurd (cc)
member_depth k (member l e ms) d h =
    later_depth (get_member k ms) (bytes_eq l k) e d (members_depth (member l e ms)) (λ x is. let deep = member_depth k ms x is in omega arith) (omega arith) h
