use Rattle.std.proofs.Common.{◌≡◌, ◌&&◌, List, length, map, ap, ◌∙◌, subst}
use Rattle.std.specs.List.{list_any}
use Rattle.std.specs.List.Sorted.{IsPermutation}
use Rattle.std.specs.Str.{bytes_eq}
use Rattle.swc_base_rename_analysis.specs.Numbers.{Known, known_by, known_of}
use Rattle.swc_base_rename_analysis.specs.Read.{is_loose, sites_by}
use Rattle.swc_base_rename_analysis.specs.Walk.{Laid, laid_of, laid_out}
use Rattle.swc_base_rename_analysis.proofs.Betweens.{positions_ascend}
use Rattle.swc_base_rename_analysis.proofs.analysis.analyse.Goals as goal

pub returns : goal.returns
returns c =
    let layout : laid_of c.in_ok-layout.layout ≡ laid_out c.args.tree.now = c.in_ok-layout.ensures in
    let all : Laid → List Known = λ l. known_by l.names (length l.names) in
    let known : map known_of c.in_ok-ids.ids.items ≡ all (laid_out c.args.tree.now) = c.in_ok-ids.ensures.ids ∙ ap all layout in
    record {
      regions = ap (λ l. l.regions) layout;
      ids = known;
      rising = positions_ascend c.in_ok-ids.ids.items (laid_out c.args.tree.now).names (length (laid_out c.args.tree.now).names) known;
      sites = subst (λ l. IsPermutation l c.sort.new.self.items) (c.in_ok-ids.ensures.sites ∙ ap (λ (l : Laid). sites_by l.regions l.names (length l.names)) layout) c.in_ok-sort.ensures.permutation;
      in_order = c.in_ok-sort.ensures.sorted;
      loose = λ x. c.in_ok-loose.ensures x ∙ ap (λ (l : List Known). list_any (λ e. is_loose e && bytes_eq e.id.0 x) l) (ap (map known_of) c.as_slice.ensures.value ∙ known);
    }
