use Rattle.std.proofs.Common.{subst}
use Rattle.text_writing.specs.Places.{Leads}
use Rattle.text_writing.proofs.Found.{turned}
use Rattle.text_writing.proofs.place.place_of.Goals as goal

pub returns-in-Some : goal.returns-in-Some
returns-in-Some g c =
    let test = g.F.Finder.is_sought c.args.finder.now in
    turned test c.args.tree.now c.in-Some.path.items c.reverse.new.self.items c.reverse.ensures.items (subst (Leads test c.args.tree.now) c.in-Some.is c.in_ok-found.ensures)
