use Rattle.std.proofs.Common.{refl}
use Rattle.jsbase_reader.proofs.OfTwo.{other_comes}
use Rattle.json.specs.Value.{value_view}
use Rattle.jsbase_reader.proofs.gathered.gather_other.Goals as goal

pub returns-clause-read : goal.returns-clause-read
returns-clause-read c = λ table class.
    let m = c.in_ok-read_value.ensures.read in
    record {
      item = value_view m.item;
      read = m.read;
      shorter = m.shorter;
      behind = other_comes table class c.args.gathered.now _ c.args.key.now (m.key, m.item) m.named c.requires.before c.requires.after m.pushed refl refl;
    }
