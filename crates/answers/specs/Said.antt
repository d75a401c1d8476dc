-- What a call says that answers a Result: its value, or its refusal's number.
use Rattle.std.specs.Prelude.{ℕ, Result, Ok, Err}
use Rattle.answers.specs.Answer.{Answer, refused, given}
use Rattle.answers.specs.Refusals.{no_refusal, cut_short, out_of_range, bad_label, no_such_state, not_rising, extra_bytes, wrong_length}
use Rattle.answers.specs.Refusals.{fails_entry, not_allowed, already_concluded, no_room, short_output, not_sound, tables_disagree, nothing_to_edit}
use Rattle.answers.specs.declared.Refusal.{Refusal}
use Rattle.answers.specs.declared.Refusal.TheVariants.{CutShort, OutOfRange, BadLabel, NoSuchState, NotRising, ExtraBytes, WrongLength, FailsEntry}
use Rattle.answers.specs.declared.Refusal.TheVariants.{NotAllowed, AlreadyConcluded, NoRoom, ShortOutput, NotSound, TablesDisagree, NothingToEdit}

-- a refusal's number is that of its name
abbrev pub number_of : Refusal → ℕ
number_of CutShort = cut_short
number_of OutOfRange = out_of_range
number_of BadLabel = bad_label
number_of NoSuchState = no_such_state
number_of NotRising = not_rising
number_of ExtraBytes = extra_bytes
number_of WrongLength = wrong_length
number_of FailsEntry = fails_entry
number_of NotAllowed = not_allowed
number_of AlreadyConcluded = already_concluded
number_of NoRoom = no_room
number_of ShortOutput = short_output
number_of NotSound = not_sound
number_of TablesDisagree = tables_disagree
number_of NothingToEdit = nothing_to_edit

-- the value in the words of a definition, or the refusal's number
abbrev pub said_as : {A B : Type 0} → (A → B) → Result A Refusal → Answer B
said_as f (Ok a) = given (f a)
said_as f (Err r) = refused (number_of r)

-- the value, or the refusal's number
abbrev pub said : {A : Type 0} → Result A Refusal → Answer A
said (Ok a) = given a
said (Err r) = refused (number_of r)

-- the refusal's number alone, 0 for none
abbrev pub refusal_of : {A : Type 0} → Result A Refusal → ℕ
refusal_of (Ok a) = no_refusal
refusal_of (Err r) = number_of r
