use Rattle.std.proofs.Common.{◌≡◌, drop}
use Rattle.json_scanner.specs.Machine.{fresh}
use Rattle.json_reader.specs.Building.{building}
use Rattle.json_reader.specs.Reading.{beginning}
use Rattle.json_reader.specs.Targets.{SameTarget, made}
use Rattle.json_reader.proofs.Builds.{Keeps}
use Rattle.json_reader.proofs.reader.Reader.build.Given as goal

abbrev pub invariant-loop-i : goal.invariant-loop-i
invariant-loop-i l = record {
  rest : building l.initial.target.source fresh 0 l.text (beginning l.initial.target.store.now l.initial.target.table.now) ≡ building l.initial.target.source l.scanner l.i (drop l.i l.text) (made l.self.notes l.target);
  keeps : Keeps l.initial.target.store.now l.initial.target.table.now (made l.self.notes l.target);
  same : SameTarget l.initial.target l.target;
}
