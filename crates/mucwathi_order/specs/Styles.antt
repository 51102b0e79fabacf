-- How an answer is laid out.
use Rattle.std.specs.Prelude.{Option, Some, None}
use Rattle.text_printer.specs.declared.lay_out.Layout.{Layout}
use Rattle.text_printer.specs.declared.lay_out.Layout.TheVariants as layout
use Rattle.mucwathi_order.specs.declared.order.Style.{Style}
use Rattle.mucwathi_order.specs.declared.order.Style.TheVariants as style

-- how a style lays out anew, if it does
abbrev pub layout_of : Style → Option Layout
layout_of style.Kept = None
layout_of style.Lines = Some layout.Lines
layout_of style.Compact = Some layout.Compact
