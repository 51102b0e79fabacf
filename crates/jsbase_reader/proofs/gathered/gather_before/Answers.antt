use Rattle.std.proofs.Common.{ap, codes, option_map, refl}
use Rattle.json.proofs.Grammar.{skip_value-shorter}
use Rattle.jsbase_reader.proofs.OfTwo.{before_comes}
use Rattle.jsbase_reader.proofs.gathered.gather_before.Goals as goal

pub returns-clause-read : goal.returns-clause-read
returns-clause-read c =
    let p = c.in_ok-tree.ensures.read in
    record {
      item = p.program;
      read = p.read;
      shorter = skip_value-shorter 126 c.args.reader.now c.read_program.new.reader (ap (option_map (λ p. p.1)) p.read);
      behind = before_comes c.args.globals.now c.args.class c.args.gathered.now _ (codes "before") p.program c.in_ok-tree.tree refl refl refl refl p.seen;
    }
