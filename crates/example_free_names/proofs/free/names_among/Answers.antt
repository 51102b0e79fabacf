use Rattle.std.proofs.Common.{map}
use Rattle.swc_tree_walk.specs.Sites.{site_of}
use Rattle.example_free_names.specs.Free.{text_of}
use Rattle.example_free_names.proofs.Once.{one_more}
use Rattle.example_free_names.proofs.free.names_among.Goals as goal

pub loop-site-preserved : goal.loop-site-preserved
loop-site-preserved c = one_more c.args.unresolved site_of c.args.found.now c.loop-site.site-index c.site-item.result c.site-item.result (map text_of c.loop-site.names.items) (map text_of c.note.new.names.items)
    c.loop-site-test.true c.site-item.is c.loop-site.invariant c.in_ok-note.ensures
