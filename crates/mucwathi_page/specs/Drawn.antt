-- A page as it is written.
use Rattle.std.specs.Borrow.{Bor}
use Rattle.std.specs.List.{flat_map}
use Rattle.std.specs.Prelude.{◌≡◌, ℕ, ◌-◌, ◌*◌, ◌%◌, ◌==◌, false, if◌then◌else◌, List, [], ◌∷◌, ◌++◌, Option, Some, None, codes, decimal, drop, length, max, min, take}
use Rattle.mucwathi_page.specs.declared.drawn.TheConstants.{SCRIPT, STYLE}
use Rattle.mucwathi_page.specs.declared.drawn.Use.{Use}
use Rattle.mucwathi_page.specs.Shown.{has_end}

-- a byte as HTML
abbrev pub escaped : ℕ → List ℕ
escaped b = if b == 38 then codes "&amp;" else (if b == 60 then codes "&lt;" else (if b == 62 then codes "&gt;" else (if b == 34 then codes "&quot;" else b ∷ [])))

abbrev pub as_html : List ℕ → List ℕ
as_html = flat_map escaped

-- names that nothing declares are of a class
abbrev pub class_text : ℕ → List ℕ
class_text mark = if mark == 1 then codes " class=free" else []

-- what a name is called anew
abbrev pub new_text : Option (Bor (List ℕ)) → List ℕ
new_text None = []
new_text (Some name) = codes " data-new=\"" ++ (as_html name.now ++ 34 ∷ [])

-- a colour goes by the variable
abbrev pub hue : ℕ → ℕ
hue variable = variable % 360 * 137 % 360

-- what is told of a name: the number of its variable, the mark of its scope, a colour, and what it is called anew
abbrev pub tag_text : Use → List ℕ
tag_text u = (codes "b" ++ (class_text u.mark ++ (codes " data-of=" ++ (decimal u.variable ++ (codes " data-scope=" ++ (decimal u.mark ++ (codes " style=\"--hue:" ++ (decimal (hue u.variable) ++ codes "\"")))))))) ++ new_text u.new

-- it ends where the tag does
abbrev pub EndsNoTag : Use → Type 0
EndsNoTag u = has_end (tag_text u) ≡ false

-- a name in its tags
abbrev pub named : Use → List ℕ → List ℕ
named u name = 60 ∷ tag_text u ++ (62 ∷ as_html name ++ codes "</b>")

-- the nearest place to one between two others
abbrev pub near : ℕ → ℕ → ℕ → ℕ
near at low high = max low (min at high)

-- where a name begins and ends, of which the text is drawn from a place on
abbrev pub begin_of : List ℕ → ℕ → Use → ℕ
begin_of text from u = near u.from from (length text)

abbrev pub end_of : List ℕ → ℕ → Use → ℕ
end_of text from u = near u.to (begin_of text from u) (length text)

abbrev pub part : List ℕ → ℕ → ℕ → List ℕ
part text a b = take (b - a) (drop a text)

-- what is before a name, from a place on, and the name
abbrev pub up_to : List ℕ → ℕ → Use → List ℕ
up_to text from u = as_html (part text from (begin_of text from u)) ++ named u (part text (begin_of text from u) (end_of text from u))

-- a text from a place on, with names in their tags, one behind another
abbrev pub drawn : List ℕ → ℕ → List Use → List ℕ
drawn text from [] = as_html (drop from text)
drawn text from (u ∷ us) = up_to text from u ++ drawn text (end_of text from u) us

-- what is before the tag, and behind its end
abbrev pub before_tag : List ℕ → List ℕ
before_tag name = codes "<!DOCTYPE html>\n<html lang=en><meta charset=utf-8><title>" ++ (as_html name ++ (codes "</title><style>" ++ (STYLE.now ++ codes "</style>")))

abbrev pub behind_tag : List ℕ
behind_tag = codes "<p>Point at a name: its uses, and the other names of its scope.</p><script>" ++ (SCRIPT.now ++ codes "</script></html>\n")

-- what is before the text, and behind it; a line end right behind the tag is none of the text (HTML, 13.1.2.5)
abbrev pub head_text : List ℕ → List ℕ
head_text name = before_tag name ++ (codes "<pre>" ++ 10 ∷ [])

abbrev pub foot_text : List ℕ
foot_text = codes "</pre>" ++ behind_tag

-- a text of that name, with these names in it
abbrev pub page_text : List ℕ → List ℕ → List Use → List ℕ
page_text name text uses = head_text name ++ (drawn text 0 uses ++ foot_text)
