-- Where the values of a kernel's text stand, in words: version 1.
use Rattle.std.specs.Prelude.{ℕ, zero, suc, ◌+◌, ◌*◌, List, [], ◌∷◌, take, drop}
use Rattle.dc_limits.specs.declared.sizes.TheConstants.{KEPT_MESSAGES, MESSAGE_BYTES}

-- the version of the text
abbrev pub version : ℕ
version = 1

-- the header begins with the version
abbrev pub version_at : ℕ
version_at = 0

-- how many processes there are
abbrev pub n_at : ℕ
n_at = 1

-- the process's own number
abbrev pub p_at : ℕ
p_at = 2

-- how it stands, as a word
abbrev pub status_at : ℕ
status_at = 3

-- the code of its exit or the cause of its trap
abbrev pub code_at : ℕ
code_at = 4

-- the number of the commit
abbrev pub commit_at : ℕ
commit_at = 5

-- the position: how many events it has taken
abbrev pub position_at : ℕ
position_at = 6

-- how many of its records were seen
abbrev pub visible_at : ℕ
visible_at = 7

-- how many records of its input it has taken
abbrev pub inputs_taken_at : ℕ
inputs_taken_at = 8

-- the address of the next instruction
abbrev pub pc_at : ℕ
pc_at = 9

-- the registers x1 to x31
abbrev pub registers_at : ℕ
registers_at = 10

-- how many those are
abbrev pub register_count : ℕ
register_count = 31

-- then the entries of the processes
abbrev pub entries_at : ℕ
entries_at = 41

-- the words of an entry
abbrev pub entry_words : ℕ
entry_words = 139

-- of an entry: how many messages were received from the process
abbrev pub received_at : ℕ
received_at = 0

-- of an entry: how many messages were sent to it
abbrev pub sent_at : ℕ
sent_at = 1

-- of an entry: how many of these are kept
abbrev pub kept_at : ℕ
kept_at = 2

-- of an entry: its slots, behind the counts
abbrev pub slots_at : ℕ
slots_at = 3

-- how many slots an entry has
abbrev pub slot_count : ℕ
slot_count = KEPT_MESSAGES

-- the most bytes of a message
abbrev pub message_room : ℕ
message_room = MESSAGE_BYTES

-- the words of so many bytes
abbrev pub message_words : ℕ
message_words = 16

-- of a slot: how many bytes its message has
abbrev pub length_at : ℕ
length_at = 0

-- of a slot: the bytes, in words behind the length
abbrev pub bytes_at : ℕ
bytes_at = 1

-- the words of a slot
abbrev pub slot_words : ℕ
slot_words = 17

-- the words of the text of a kernel of n processes
abbrev pub kernel_words : ℕ → ℕ
kernel_words n = entries_at + entry_words * n

-- so many parts of one size, one after the other
abbrev pub parts : ℕ → ℕ → List ℕ → List (List ℕ)
parts zero size words = []
parts (suc count) size words = take size words ∷ parts count size (drop size words)

-- the entries in a text
abbrev pub entries_of : ℕ → List ℕ → List (List ℕ)
entries_of n words = parts n entry_words (drop entries_at words)

-- the entry of process q in a text
abbrev pub entry_of : ℕ → List ℕ → List ℕ
entry_of q words = take entry_words (drop (entries_at + entry_words * q) words)

-- the slots in an entry that hold messages
abbrev pub slots_of : ℕ → List ℕ → List (List ℕ)
slots_of kept entry = parts kept slot_words (drop slots_at entry)

-- what is behind them in the entry
abbrev pub behind_slots : ℕ → List ℕ → List ℕ
behind_slots kept entry = drop (slots_at + slot_words * kept) entry
