use Rattle.std.proofs.Common.{List, ℕ, ◌++◌, ap, ◌∙◌}
use Rattle.std.specs.Prelude.{codes}
use Rattle.mucwathi_lists.specs.Listed.{place_text}
use Rattle.mucwathi_lists.proofs.Listing.{lost_joined}
use Rattle.mucwathi_lists.proofs.lists.add_lost.Goals as goal

pub returns-clause-added : goal.returns-clause-added
returns-clause-added c =
    lost_joined c.args.out.now.items c.args.name.now (place_text c.args.text.now c.args.at) (codes ": this comment is not written") _ _ _ _ c.push-2.new.self.items
    (c.in_ok-extend_from_slice.ensures.items ∙ ap (λ (l : List ℕ). c.args.out.now.items ++ l) c.as_bytes.ensures.value) c.in_ok-push.ensures.items c.in_ok-add_place.ensures.added
    (c.in_ok-extend_from_slice-2.ensures.items ∙ ap (λ (l : List ℕ). c.add_place.new.out.items ++ l) c.as_bytes-2.ensures.value) c.in_ok-push-2.ensures.items
