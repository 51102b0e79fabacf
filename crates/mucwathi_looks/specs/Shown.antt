-- Texts as pages.
use Rattle.std.specs.Prelude.{◌≡◌, ℕ, List}
use Rattle.swc_tree_marks.specs.Globals.{Table}
use Rattle.swc_tree_node.specs.declared.node.Node.{Node}
use Rattle.swc_tree_scoping.specs.Places.{program_place}
use Rattle.swc_tree_spaces.specs.Spaces.{ResolvedBy}
use Rattle.swc_tree_walk.specs.Sites.{sites}
use Rattle.text_parser.specs.declared.programs.Goal.{Goal}
use Rattle.text_source.specs.Texts.{IsTextOf, SpansAreOf}
use Rattle.mucwathi_lists.specs.declared.changes.Change.{Change}
use Rattle.mucwathi_looks.specs.Changes.{HasChanges}
use Rattle.mucwathi_page.specs.declared.drawn.Use.{Use}
use Rattle.mucwathi_page.specs.Drawn.{page_text}
use Rattle.mucwathi_page.specs.Shown.{IsPage}
use Rattle.mucwathi_passes.specs.Passes.{own_table}
use Rattle.mucwathi_looks.specs.Coloured.{AreUses}
use Rattle.mucwathi_looks.specs.Unshown.{chain_order}

-- a page has the text, with the names of the program once it is resolved, each variable with a number of its own, and with what they are called anew
pub record ShowsNames (source : Node) (changes : List Change) (name text page : List ℕ) : Type 0 where
  pub table : Table
  pub resolved : Node
  pub is_resolved : ResolvedBy 1 2 own_table table source resolved
  pub uses : List Use
  pub are : AreUses (sites program_place resolved) changes uses
  pub drawn : page ≡ page_text name text uses
  pub whole : IsPage text page

-- ... those of the program of a text, whose names stand in it where their spans say
pub record ShowsText (goal : Goal) (changes : List Change) (name text page : List ℕ) : Type 0 where
  pub source : Node
  pub read : IsTextOf goal source text
  pub stands : SpansAreOf goal source text
  pub names : ShowsNames source changes name text page

-- ... and a chain of the text calls them so
pub record IsShown (goal : Goal) (depth : ℕ) (name text page : List ℕ) : Type 0 where
  pub changes : List Change
  pub renamed : HasChanges (chain_order goal depth) text changes
  pub shown : ShowsText goal changes name text page
