-- The file holds the lines of the events that were made.
use Rattle.std.proofs.Common.{◌∙◌}
use Rattle.mp_words.specs.Values.{make_in}
use Rattle.mp_command.specs.Writing.{MadeEvents, made_file}
use Rattle.mp_command.proofs.Parted.{part_answered, whole_answered}
use Rattle.mp_command.proofs.making.make_file.Goals as goal

pub returns-clause-whole : goal.returns-clause-whole
returns-clause-whole g c =
    let asked = make_in c.args.options.now in
    let is = c.as_slice.ensures.value ∙ c.in_ok-events.ensures.made in
    whole_answered c.events_to.result (made_file asked) (record { purpose = MadeEvents; name = asked.out }) _ _ (rw is at c.events_to.ensures.whole)

pub returns-clause-part : goal.returns-clause-part
returns-clause-part g c =
    let asked = make_in c.args.options.now in
    let is = c.as_slice.ensures.value ∙ c.in_ok-events.ensures.made in
    part_answered c.events_to.result (made_file asked) (record { purpose = MadeEvents; name = asked.out }) _ _ (rw is at c.events_to.ensures.part)
