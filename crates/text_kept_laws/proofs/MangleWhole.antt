-- The laws.
use Rattle.std.proofs.Common.{inl, inr, sym, subst}
use Rattle.swc_base_rename_by_use.specs.ByUse.{moved, own}
use Rattle.swc_base_rename_by_use.specs.ByUseLaws.{identifier-by_use}
use Rattle.swc_base_mangle.specs.Mangled.{IsShortened, mangling}
use Rattle.text_grammar.specs.Shaped.{Shaped}
use Rattle.text_checks.specs.Spelled.{Spelled}
use Rattle.text_kept_laws.proofs.ResolvedWhole.{texts_shaped, texts_spelled}
use Rattle.text_kept_laws.proofs.UnitsWhole.{any_renaming}
use Rattle.text_kept_laws.specs.Mangle.{ManglingKeepsTexts, ShortTextsAreWords}
use Rattle.text_kept_laws.proofs.Short.{short_word}

pub short_words : ShortTextsAreWords
short_words texts keeps_top top t p k i n at within other = short_word (moved (own texts (i.sym, i.ctxt)) n) (identifier-by_use texts (i.sym, i.ctxt) n within)

pub mangling_texts : ManglingKeepsTexts
mangling_texts table config keeps_top before after s room fits m shaped spelled =
    let texts = by m.shortened in
    (subst Shaped (sym m.cleared) ((texts_shaped m.given).1 texts.0), subst Spelled (sym m.cleared) ((texts_spelled m.given).1 texts.1))
  where
    by : IsShortened table config keeps_top before m.given → Shaped m.given × Spelled m.given
    by (inl stays) = (subst Shaped (sym stays.1) shaped, subst Spelled (sym stays.1) spelled)
    by (inr (none, (texts, named))) =
        any_renaming (mangling texts keeps_top config.top_level_mark before) table config before m.given s room (short_words texts keeps_top config.top_level_mark before) fits named shaped spelled
