use Rattle.std.proofs.Common.{sym, subst}
use Rattle.json_scanner.specs.Theorem.{Alone, Reads}
use Rattle.json_scanner.proofs.Answered.{alone, reads}
use Rattle.json_scanner.proofs.check.check_text.Goals as goal

pub returns : goal.returns
returns c =
    record {
      reads = subst (Reads c.args.text.now) (sym c.scan_text.ensures) (reads c.args.text.now);
      alone = subst (Alone c.args.text.now) (sym c.scan_text.ensures) (alone c.args.text.now);
    }
