-- When a process commits and what it logs.
use Rattle.std.specs.Prelude.{Bool, true, false, not, ◌&&◌, ◌||◌}
use Rattle.dc_events.specs.declared.event.Kind.{Kind}
use Rattle.dc_events.specs.declared.event.Kind.TheVariants.{Clock, Random, Input, Receive, Visible, Send}
use Rattle.dc_protocols.specs.declared.protocol.Protocol.{Protocol}
use Rattle.dc_protocols.specs.declared.protocol.Protocol.TheVariants.{Cand, CandLog, Cpvs, Cbndvs, CbndvsLog, Cpv2pc, Cbndv2pc, Cbndv2pcCausal}
use Rattle.dc_protocols.specs.declared.protocol.Rule.{Rule}
use Rattle.dc_protocols.specs.declared.protocol.Since.{Since}

-- at no event
abbrev pub never : Bool
never = false

-- at readings of the clock and of random numbers
abbrev pub at_clock_and_random : Kind → Bool
at_clock_and_random Clock = true
at_clock_and_random Random = true
at_clock_and_random _ = false

-- requests for input and for messages
abbrev pub at_inputs : Kind → Bool
at_inputs Input = true
at_inputs Receive = true
at_inputs _ = false

-- at each event whose answer comes from outside
abbrev pub at_every_nondeterministic : Kind → Bool
at_every_nondeterministic kind = at_clock_and_random kind || at_inputs kind

-- at outputs that users see
abbrev pub at_visible : Kind → Bool
at_visible Visible = true
at_visible _ = false

-- at messages that are sent
abbrev pub at_sends : Kind → Bool
at_sends Send = true
at_sends _ = false

-- at outputs and messages that are sent
abbrev pub at_outputs : Kind → Bool
at_outputs kind = at_visible kind || at_sends kind

-- the table: a row for each protocol, with columns of where it commits before an event, where it logs the answer and where it commits after
abbrev pub row_of : Protocol → Kind → Since → Rule
row_of Cand kind since = record { before = never; log = never; after = at_every_nondeterministic kind }
row_of CandLog kind since = record { before = at_inputs kind && since.full && not since.replay; log = at_inputs kind && not since.replay; after = at_clock_and_random kind }
row_of Cpvs kind since = record { before = at_outputs kind; log = never; after = never }
row_of Cbndvs kind since = record { before = at_outputs kind && since.unlogged; log = never; after = never }
row_of CbndvsLog kind since = record { before = (at_outputs kind && since.unlogged) || (at_inputs kind && not since.unlogged && since.full && not since.replay); log = at_inputs kind && not since.unlogged && not since.replay; after = never }
row_of Cpv2pc kind since = record { before = at_visible kind; log = never; after = never }
row_of Cbndv2pc kind since = record { before = at_visible kind && since.any; log = never; after = never }
row_of Cbndv2pcCausal kind since = record { before = at_visible kind && since.any; log = never; after = never }

-- the rule: in each row the eighth uncommitted receipt from one sender also has a commit after it, where none came before it
abbrev pub rule_of : Protocol → Kind → Since → Rule
rule_of protocol kind since = let row = row_of protocol kind since in record row { after = row.after || (since.eighth && not row.before) }

-- whether each commit is one of all processes together
abbrev pub is_global : Protocol → Bool
is_global Cpv2pc = true
is_global Cbndv2pc = true
is_global _ = false

-- whether only those commit together that matter: the processes on whose unlogged nondeterministic events the visible event depends
abbrev pub is_causal : Protocol → Bool
is_causal Cbndv2pcCausal = true
is_causal _ = false

-- whether all processes fall and recover together
abbrev pub is_joint : Protocol → Bool
is_joint protocol = is_global protocol || is_causal protocol

-- whether answers are logged
abbrev pub has_log : Protocol → Bool
has_log CandLog = true
has_log CbndvsLog = true
has_log _ = false

-- whether each nondeterministic event is logged or has a commit after it
abbrev pub is_cand : Protocol → Bool
is_cand Cand = true
is_cand CandLog = true
is_cand _ = false
