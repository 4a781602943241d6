use Rattle.json_round_trip.proofs.Trips.{reads_again, reads_back, reads_within}
use Rattle.json_round_trip.proofs.laws.round_trip_stands.Goals as goal

pub returns : goal.returns
returns c = record { back = reads_back; within = reads_within; again = reads_again }
