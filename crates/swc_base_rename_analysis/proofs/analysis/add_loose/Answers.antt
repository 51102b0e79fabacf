use Rattle.std.proofs.Common.{◌≡◌, true, ◌&&◌, string_bytes, cond, sym, ap, ◌∙◌}
use Rattle.std.specs.BTreeSet.{contains_text}
use Rattle.std.specs.Str.{bytes_eq}
use Rattle.std.proofs.lemmas.Map.Text.{btree_set_updates_text}
use Rattle.swc_base_rename_analysis.specs.Numbers.{known_of}
use Rattle.swc_base_rename_analysis.specs.Read.{is_loose}
use Rattle.swc_base_rename_analysis.proofs.analysis.add_loose.Goals as goal

pub returns-in_ok-insert : goal.returns-in_ok-insert
returns-in_ok-insert c =
    let loose : true ≡ is_loose (known_of c.args.entry.now) = sym c.if-is_loose.true ∙ c.is_loose.ensures in
    let text : string_bytes c.in_ok-text.text ≡ c.args.entry.now.id.0 = c.in_ok-text.ensures.ok ∙ c.as_str.ensures in
    λ x. btree_set_updates_text (string_bytes c.in_ok-text.text) c.args.texts.now c.insert.new.self true c.in_ok-insert.ensures.updates x
    ∙ ap (λ t. cond (bytes_eq t x) true (contains_text c.args.texts.now x)) text
    ∙ ap (λ b. cond (b && bytes_eq c.args.entry.now.id.0 x) true (contains_text c.args.texts.now x)) loose
