-- The grammar of loop scripts at small texts, computed: what stands here was worked out by hand.
use Rattle.std.proofs.Common.{◌≡◌, [], ◌∷◌, refl, codes, Ok, Err}
use Rattle.aio_model.specs.declared.scripts.loop_scripts.ActKind.TheVariants as act
use Rattle.aio_model.specs.declared.scripts.loop_scripts.Command.TheVariants as command
use Rattle.aio_script.specs.declared.refusals.ScriptRefusal.TheVariants.{BadLine, BadNumber, OutOfLimit, NoHeader}
use Rattle.aio_script.specs.Loop.Grammar.{loop_script_said}

empty_text : loop_script_said [] ≡ Err NoHeader
empty_text = refl

no_command : loop_script_said (codes "# none\nloop 64 64 64") ≡ Ok (record { handles = 64; lots = 64; events = 64; acts = []; commands = [] })
no_command = refl

a_nested_poll : loop_script_said (codes "loop 3 0 0\non 1 schedule 2\non 1 nest\nschedule 0\nschedule 1\npoll\n")
    ≡ Ok (record {
      handles = 3;
      lots = 0;
      events = 0;
      acts = record { bh = 1; what = act.Schedule 2 } ∷ record { bh = 1; what = act.Nest } ∷ [];
      commands = command.Schedule 0 ∷ command.Schedule 1 ∷ command.Poll ∷ [];
    })
a_nested_poll = refl

each_command : loop_script_said (codes "loop 1 1 4\nidle 0\ndelete 0\ncancel 0\nonce 999\ncommit\nset 3\nclear 0\n")
    ≡ Ok (record {
      handles = 1;
      lots = 1;
      events = 4;
      acts = [];
      commands = command.Idle 0 ∷ command.Delete 0 ∷ command.Cancel 0 ∷ command.Once 999 ∷ command.Commit ∷ command.Set 3 ∷ command.Clear 0 ∷ [];
    })
each_command = refl

-- which refusal comes first
header_is_no_words : loop_script_said (codes "loop  1 0 0\n") ≡ Err (BadLine 1)
header_is_no_words = refl

header_of_other_words : loop_script_said (codes "loops 1 0 0\n") ≡ Err NoHeader
header_of_other_words = refl

header_with_a_word_less : loop_script_said (codes "loop x 65\n") ≡ Err (BadLine 1)
header_with_a_word_less = refl

header_with_no_number : loop_script_said (codes "loop 0 0 x\n") ≡ Err (BadNumber 1)
header_with_no_number = refl

no_handle : loop_script_said (codes "loop 0 0 0\n") ≡ Err (OutOfLimit 1)
no_handle = refl

second_header : loop_script_said (codes "loop 1 0 0\nloop x\n") ≡ Err (BadLine 2)
second_header = refl

action_behind_a_command : loop_script_said (codes "loop 1 0 0\npoll\non x nest\n") ≡ Err (BadLine 3)
action_behind_a_command = refl

number_before_limit : loop_script_said (codes "loop 1 0 0\non 9 schedule x\n") ≡ Err (BadNumber 2)
number_before_limit = refl

no_such_handle : loop_script_said (codes "loop 1 0 0\non 0 schedule 1\n") ≡ Err (OutOfLimit 2)
no_such_handle = refl

ninth_action : loop_script_said (codes "loop 1 0 0\non 0 nest\non 0 nest\non 0 nest\non 0 nest\non 0 nest\non 0 nest\non 0 nest\non 0 nest\non 0 nest\n")
    ≡ Err (OutOfLimit 10)
ninth_action = refl

tag_too_large : loop_script_said (codes "loop 1 0 0\nonce 1000\n") ≡ Err (OutOfLimit 2)
tag_too_large = refl

no_such_event : loop_script_said (codes "loop 1 0 1\nset 0\nclear 1\n") ≡ Err (OutOfLimit 3)
no_such_event = refl
