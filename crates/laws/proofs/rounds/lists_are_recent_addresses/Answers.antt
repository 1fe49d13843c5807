use Rattle.laws.proofs.RecentRuns.{lists_are_recent_addresses}
use Rattle.laws.proofs.rounds.lists_are_recent_addresses.Goals as goal

pub returns : goal.returns
returns c = lists_are_recent_addresses
