use Rattle.std.proofs.Common.{refl}
use Rattle.rules.specs.Loading.{load_requests, loading}
use Rattle.rules.specs.Accessing.{accessing}
use Rattle.rules.specs.Rebuilding.{untouched_slots, items, batch_step, gathered, rebuild_steps, rebuilding}
use Rattle.worked_examples.proofs.definitions_agree_with_the_independent_program.Goals as goal

pub returns : goal.returns
unfolding load_requests loading accessing untouched_slots items batch_step gathered rebuild_steps rebuilding
returns c = record {
  run_0 = record { opened_so = refl; answered_so = refl; slots_so = refl; levels_so = refl; number_so = refl };
  run_1 = record { opened_so = refl; answered_so = refl; slots_so = refl; levels_so = refl; number_so = refl };
  run_2 = record { opened_so = refl; answered_so = refl; slots_so = refl; levels_so = refl; number_so = refl };
  run_3 = record { opened_so = refl; answered_so = refl; slots_so = refl; levels_so = refl; number_so = refl };
  run_4 = record { opened_so = refl; answered_so = refl; slots_so = refl; levels_so = refl; number_so = refl };
  run_5 = record { opened_so = refl; answered_so = refl; slots_so = refl; levels_so = refl; number_so = refl };
  run_6 = record { opened_so = refl; answered_so = refl; slots_so = refl; levels_so = refl; number_so = refl };
  run_7 = record { opened_so = refl; answered_so = refl; slots_so = refl; levels_so = refl; number_so = refl };
  run_8 = record { opened_so = refl; answered_so = refl; slots_so = refl; levels_so = refl; number_so = refl };
  run_9 = record { opened_so = refl; answered_so = refl; slots_so = refl; levels_so = refl; number_so = refl };
  run_10 = record { opened_so = refl; answered_so = refl; slots_so = refl; levels_so = refl; number_so = refl };
  run_11 = record { opened_so = refl; answered_so = refl; slots_so = refl; levels_so = refl; number_so = refl };
}
