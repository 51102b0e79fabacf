use Rattle.std.proofs.Common.{◌≡◌, Bool, true, false, ◌||◌, string_bytes, cond, refl, ap, ◌∙◌}
use Rattle.std.specs.BTreeSet.{contains_text}
use Rattle.std.specs.Str.{bytes_eq}
use Rattle.std.proofs.lemmas.Map.Text.{btree_set_updates_text}
use Rattle.swc_base_rename_program.proofs.left.add_text.Goals as goal

beside : (b c : Bool) → cond b true c ≡ (c || b)
beside true true = refl
beside true false = refl
beside false true = refl
beside false false = refl

pub returns : goal.returns
returns c =
    let text : string_bytes c.in_ok-text.text ≡ c.args.id.now.0 = c.in_ok-text.ensures.ok ∙ c.as_str.ensures in
    λ x. btree_set_updates_text (string_bytes c.in_ok-text.text) c.args.texts.now c.insert.new.self true c.in_ok-insert.ensures.updates x
    ∙ ap (λ t. cond (bytes_eq t x) true (contains_text c.args.texts.now x)) text
    ∙ beside (bytes_eq c.args.id.now.0 x) (contains_text c.args.texts.now x)
