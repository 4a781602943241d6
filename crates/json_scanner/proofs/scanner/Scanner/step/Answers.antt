use Rattle.std.proofs.Common.{subst}
use Rattle.json_scanner.specs.Holds.{Counts, Room}
use Rattle.json_scanner.proofs.Roomy.{room_of}
use Rattle.json_scanner.proofs.scanner.Scanner.step.Goals as goal

pub arrange-requires : goal.arrange-requires
arrange-requires c =
    subst (λ a. Room c.in_ok-next.next.act a.depth) c.around-around.ensures (room_of c.around-around.result c.in_ok-ready.ready.mode c.args.b _ c.in_ok-next.ensures).0

pub count-self-inside-requires : goal.count-self-inside-requires
count-self-inside-requires c =
    subst (λ a. Counts c.in_ok-next.next.act a.values) c.around-around.ensures (room_of c.around-around.result c.in_ok-ready.ready.mode c.args.b _ c.in_ok-next.ensures).1
