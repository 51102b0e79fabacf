use Rattle.std.proofs.Common.{◌≡◌, refl, subst, arith}
use Rattle.std.proofs.lemmas.Option.{slice_get_read}
use Rattle.std.proofs.lemmas.Result.{IfOk-weaker}
use Rattle.text_writing.specs.Places.{Leads}
use Rattle.text_writing.proofs.Found.{leads_below, leads_further, leads_here, none_below, none_further}
use Rattle.text_writing.proofs.place.+find.Goals as goal

pub find-returns-then-is_sought : goal.find-returns-then-is_sought
find-returns-then-is_sought g t c =
    leads_here (g.F.Finder.is_sought c.args.finder.now) c.args.tree.now c.is_sought.result c.new.result.items c.is_sought.ensures c.if-is_sought.true c.new.ensures.items

pub find-returns : goal.find-returns
find-returns g t c =
    IfOk-weaker c.find_below.result _ _
    (λ found. leads_below (g.F.Finder.is_sought c.args.finder.now) c.args.tree.now c.is_sought.result c.children.result.now found c.children.ensures c.is_sought.ensures c.if-is_sought.false)
    c.find_below.ensures

pub find_below-returns-in-Some : goal.find_below-returns-in-Some
find_below-returns-in-Some g t c =
    let test = g.F.Finder.is_sought c.args.finder.now in
    let node = c.index-trees-i.result in
    let here = slice_get_read c.args.trees.now _ c.loop-i.i node refl (omega arith) c.index-trees-i.is in
    leads_further test c.args.trees.now c.loop-i.i node c.in-Some.path.items c.in_ok-longer-in-Some.longer.items here c.in_ok-longer-in-Some.ensures
    (subst (Leads test node) c.in-Some.is c.in_ok-found.ensures)

pub find_below-loop-i-preserved : goal.find_below-loop-i-preserved
find_below-loop-i-preserved g t c =
    let test = g.F.Finder.is_sought c.args.finder.now in
    let node = c.index-trees-i.result in
    let here = slice_get_read c.args.trees.now _ c.loop-i.i node refl (omega arith) c.index-trees-i.is in
    none_further test c.args.trees.now c.loop-i.i node here (subst (Leads test node) c.in-None.is c.in_ok-found.ensures) c.loop-i.invariant

pub find_below-returns : goal.find_below-returns
find_below-returns g t c = none_below (g.F.Finder.is_sought c.args.finder.now) c.args.trees.now c.loop-i.i (omega arith) c.loop-i.invariant
