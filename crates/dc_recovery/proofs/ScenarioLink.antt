-- A full link: after eight sends the ninth waits, until the eighth receipt is made and committed; the seven receipts before it are not.
use Rattle.std.proofs.Common.{◌≡◌, ◌==◌, ℕ, List, [], ◌∷◌, ◌++◌, refl, arith, true, false, if◌then◌else◌, drop, map, replicate}
use Rattle.dc_model.specs.Guests.{Event, Guests}
use Rattle.dc_model.specs.Guests.Answer.{Plain, ReceiveFrom}
use Rattle.dc_model.specs.Guests.Event.{AtReceive, AtSend}
use Rattle.dc_model.specs.declared.entry.Entry.{Entry}
use Rattle.dc_model.specs.declared.mark.Idle.TheVariants.{LinkFull}
use Rattle.dc_model.specs.declared.mark.Mark.{Mark}
use Rattle.dc_model.specs.declared.mark.Mark.TheVariants as mark
use Rattle.dc_protocols.specs.declared.protocol.Protocol.TheVariants.{Cpvs}
use Rattle.dc_recovery.proofs.ScenarioGuests.{Led, turn}
use Rattle.dc_recovery.specs.Answers.{is_blocked, rule_at}
use Rattle.dc_recovery.specs.Core.{learned, opened_core, opening}
use Rattle.dc_recovery.specs.Parts.Place.{Nowhere}
use Rattle.dc_recovery.specs.Systems.{System, system_of}
use Rattle.dc_recovery.specs.Turned.{LeadsTo, after_turn}

-- what a process does for ever
pub data Role : Type 0 where
  Sender : Role
  Receiver : Role

-- what is sent
abbrev message : List ℕ
message = 7 ∷ []

-- the one event of a role
abbrev event_of : Role → Event
event_of Sender = AtSend 1 message
event_of Receiver = AtReceive

-- process 0 sends to process 1 for ever
abbrev guests : Guests Role
guests = record { count = 2; next = event_of; after = λ role a. role; stores = λ role a. true; start = λ p. if p == 0 then Sender else Receiver; inputs = λ p. [] }

-- at most eight messages of one sender may be received and not committed
abbrev pub system : System Role
system = system_of guests Cpvs 8 64

-- nine turns of the sender, seven of the receiver, one of the sender, one of the receiver and one of the sender
abbrev pub schedule : List Entry
schedule = replicate 9 (turn 0 0 0) ++ replicate 7 (turn 1 0 0) ++ turn 0 0 0 ∷ turn 1 0 0 ∷ turn 0 0 0 ∷ []

-- the marks, the last first: the ninth and the seventeenth turn do nothing
abbrev pub marks : List Mark
marks = mark.Stepped ∷ mark.Stepped ∷ mark.Idle LinkFull ∷ replicate 7 mark.Stepped ++ mark.Idle LinkFull ∷ replicate 8 mark.Stepped

-- the beginning
abbrev run_0 : Led system schedule []
run_0 = (opened_core (λ p. true), refl)

-- turn 0: the first send
abbrev run_1 : Led system schedule (drop 18 marks)
run_1 = (after_turn system 0 run_0.0 0 Plain Nowhere, (run_0.0, run_0.1, (omega arith, (Nowhere, refl, refl, refl))))

-- turn 1: the second send
abbrev run_2 : Led system schedule (drop 17 marks)
run_2 = (after_turn system 1 run_1.0 0 Plain Nowhere, (run_1.0, run_1.1, (omega arith, (Nowhere, refl, refl, refl))))

-- turn 2: the third send
abbrev run_3 : Led system schedule (drop 16 marks)
run_3 = (after_turn system 2 run_2.0 0 Plain Nowhere, (run_2.0, run_2.1, (omega arith, (Nowhere, refl, refl, refl))))

-- turn 3: the fourth send
abbrev run_4 : Led system schedule (drop 15 marks)
run_4 = (after_turn system 3 run_3.0 0 Plain Nowhere, (run_3.0, run_3.1, (omega arith, (Nowhere, refl, refl, refl))))

-- turn 4: the fifth send
abbrev run_5 : Led system schedule (drop 14 marks)
run_5 = (after_turn system 4 run_4.0 0 Plain Nowhere, (run_4.0, run_4.1, (omega arith, (Nowhere, refl, refl, refl))))

-- turn 5: the sixth send
abbrev run_6 : Led system schedule (drop 13 marks)
run_6 = (after_turn system 5 run_5.0 0 Plain Nowhere, (run_5.0, run_5.1, (omega arith, (Nowhere, refl, refl, refl))))

-- turn 6: the seventh send
abbrev run_7 : Led system schedule (drop 12 marks)
run_7 = (after_turn system 6 run_6.0 0 Plain Nowhere, (run_6.0, run_6.1, (omega arith, (Nowhere, refl, refl, refl))))

-- turn 7: the eighth send
abbrev run_8 : Led system schedule (drop 11 marks)
run_8 = (after_turn system 7 run_7.0 0 Plain Nowhere, (run_7.0, run_7.1, (omega arith, (Nowhere, refl, refl, refl))))

-- turn 8: the ninth send waits
abbrev run_9 : Led system schedule (drop 10 marks)
run_9 = (run_8.0, (run_8.0, run_8.1, (omega arith, (refl, refl))))

-- turn 9: the first receipt
abbrev run_10 : Led system schedule (drop 9 marks)
run_10 = (after_turn system 9 run_9.0 1 (ReceiveFrom 0 message) Nowhere, (run_9.0, run_9.1, (omega arith, (Nowhere, refl, refl, refl))))

-- turn 10: the second receipt
abbrev run_11 : Led system schedule (drop 8 marks)
run_11 = (after_turn system 10 run_10.0 1 (ReceiveFrom 0 message) Nowhere, (run_10.0, run_10.1, (omega arith, (Nowhere, refl, refl, refl))))

-- turn 11: the third receipt
abbrev run_12 : Led system schedule (drop 7 marks)
run_12 = (after_turn system 11 run_11.0 1 (ReceiveFrom 0 message) Nowhere, (run_11.0, run_11.1, (omega arith, (Nowhere, refl, refl, refl))))

-- turn 12: the fourth receipt
abbrev run_13 : Led system schedule (drop 6 marks)
run_13 = (after_turn system 12 run_12.0 1 (ReceiveFrom 0 message) Nowhere, (run_12.0, run_12.1, (omega arith, (Nowhere, refl, refl, refl))))

-- turn 13: the fifth receipt
abbrev run_14 : Led system schedule (drop 5 marks)
run_14 = (after_turn system 13 run_13.0 1 (ReceiveFrom 0 message) Nowhere, (run_13.0, run_13.1, (omega arith, (Nowhere, refl, refl, refl))))

-- turn 14: the sixth receipt
abbrev run_15 : Led system schedule (drop 4 marks)
run_15 = (after_turn system 14 run_14.0 1 (ReceiveFrom 0 message) Nowhere, (run_14.0, run_14.1, (omega arith, (Nowhere, refl, refl, refl))))

-- turn 15: the seventh receipt
abbrev run_16 : Led system schedule (drop 3 marks)
run_16 = (after_turn system 15 run_15.0 1 (ReceiveFrom 0 message) Nowhere, (run_15.0, run_15.1, (omega arith, (Nowhere, refl, refl, refl))))

-- turn 16: the ninth send waits
abbrev run_17 : Led system schedule (drop 2 marks)
run_17 = (run_16.0, (run_16.0, run_16.1, (omega arith, (refl, refl))))

-- turn 17: the eighth receipt, and a commit of process 1
abbrev run_18 : Led system schedule (drop 1 marks)
run_18 = (after_turn system 17 run_17.0 1 (ReceiveFrom 0 message) Nowhere, (run_17.0, run_17.1, (omega arith, (Nowhere, refl, refl, refl))))

-- turn 18: the ninth send
abbrev run_19 : Led system schedule marks
run_19 = (after_turn system 18 run_18.0 0 Plain Nowhere, (run_18.0, run_18.1, (omega arith, (Nowhere, refl, refl, refl))))

-- the marks lead there
pub ninth_send : LeadsTo system schedule (opening (λ p. true)) marks run_19.0
ninth_send = run_19.1

-- nothing is shown
pub lines_left : run_19.0.lines ≡ []
lines_left = refl

-- each turn but the two has its act
pub acts_left : map {B = ℕ × ℕ} (λ x. (x.t, x.p)) run_19.0.acts
    ≡ (18, 0) ∷ (17, 1) ∷ (15, 1) ∷ (14, 1) ∷ (13, 1) ∷ (12, 1) ∷ (11, 1) ∷ (10, 1) ∷ (9, 1)
    ∷ (7, 0) ∷ (6, 0) ∷ (5, 0) ∷ (4, 0) ∷ (3, 0) ∷ (2, 0) ∷ (1, 0) ∷ (0, 0) ∷ []
acts_left = refl

-- the sends tell nothing, the receipts the message
pub answers_left : map (λ x. x.answer) run_19.0.acts ≡ Plain ∷ replicate 8 (ReceiveFrom 0 message) ++ replicate 8 Plain
answers_left = refl

-- the eighth send does not wait
pub eighth_goes : is_blocked system run_7.0 0 (AtSend 1 message) ≡ false
eighth_goes = refl

-- the ninth does
pub ninth_waits : is_blocked system run_8.0 0 (AtSend 1 message) ≡ true
ninth_waits = refl

-- after seven receipts too
pub ninth_waits_still : is_blocked system run_16.0 0 (AtSend 1 message) ≡ true
ninth_waits_still = refl

-- since none of them is committed
pub none_learned : learned guests run_16.0 1 0 ≡ 0
none_learned = refl

-- the seventh receipt has no commit after it
pub seventh_after : (rule_at system run_15.0 1 (ReceiveFrom 0 message)).after ≡ false
seventh_after = refl

-- the eighth has
pub eighth_after : (rule_at system run_17.0 1 (ReceiveFrom 0 message)).after ≡ true
eighth_after = refl

-- so all eight are committed
pub all_learned : learned guests run_18.0 1 0 ≡ 8
all_learned = refl

-- and the ninth send does not wait
pub ninth_goes : is_blocked system run_18.0 0 (AtSend 1 message) ≡ false
ninth_goes = refl
