-- Reading a configuration gives what the text stands for, or its first fault.
use Rattle.std.proofs.Common.{◌≡◌, ℕ, ◌+◌, ◌≤◌, ◌⊎◌, inl, inr, List, [], ◌∷◌, length, Option, Some, None, Ok, Err, refl, sym, ap}
use Rattle.std.proofs.Common.{◌∙◌, subst, append-nil, arith}
use Rattle.std.specs.List.{filter_map, flat_map}
use Rattle.std.specs.Option.{option_to_list}
use Rattle.std.specs.Str.Lines.{lines}
use Rattle.tn_text.specs.declared.faults.Fault.{Fault}
use Rattle.tn_text.specs.declared.faults.Lack.TheVariants as lack
use Rattle.tn_text.specs.Faults.{fault_at}
use Rattle.tn_text.specs.Reading.{placed, IsFirstBadLine, IsLacking, IsReading}
use Rattle.tn_text.proofs.Results.{ok-ok, err-err, ok-err}
use Rattle.tn_text.proofs.Walking.{walk_of, of_walk, first_fault, of_first_bad, of_lacking}
use Rattle.tn_config.specs.Configurations.{ConfigState}
use Rattle.tn_config.specs.Parts.{Part, part_lines, IsConfig, block_in, host_in, wire_in}
use Rattle.tn_config.specs.SoFar.{Opened, latest, so_far}
use Rattle.tn_config.specs.ConfigFaults.{lacks, IsBeginning, IsBadLine, IsConfigFault}
use Rattle.tn_config.specs.ConfigReading.{config_line, finish, nothing_read, config_read}
use Rattle.tn_config.proofs.Beginnings.{Begun, walked, wrong_on, refused_on}
use Rattle.tn_config.proofs.Runs.{walk_of_beginning}

-- what stands at the end where no block is open
abbrev config_at : ℕ → List Part → ConfigState
config_at n parts =
    record { blocks = filter_map block_in parts; host = latest (filter_map host_in parts); wires = filter_map wire_in parts; lines = n }

finish-whole : (n : ℕ) (parts : List Part) → finish (so_far n parts None) ≡ Ok (config_at n parts)
unfolding finish
finish-whole n parts = refl

finish-open : (n : ℕ) (parts : List Part) (o : Opened) → finish (so_far n parts (Some o)) ≡ Err (lacks lack.End)
unfolding finish
finish-open n parts o = refl

-- a list of one at most is its latest
latest_list : {A : Type 0} (xs : List A) → length xs ≤ 1 → xs ≡ option_to_list (latest xs)
latest_list [] h = refl
latest_list (x ∷ []) h = refl
latest_list (x ∷ y ∷ ys) h = absurd (omega arith)

list_latest : {A : Type 0} (o : Option A) (xs : List A) → xs ≡ option_to_list o → latest xs ≡ o
list_latest None xs e = ap latest e
list_latest (Some x) xs e = ap latest e

list_once : {A : Type 0} (o : Option A) (xs : List A) → xs ≡ option_to_list o → length xs ≤ 1
list_once None xs e = rw e (omega arith)
list_once (Some x) xs e = rw e (omega arith)

-- a text whose lines are those of parts stands for what they say
stands_for : (text : List ℕ) (parts : List Part) → IsBeginning (lines text) parts None
    → IsConfig text (config_at (length (lines text)) parts)
stands_for text parts b =
    record {
      said = b.said;
      parts = parts;
      say = b.say;
      are = b.are ∙ append-nil (flat_map part_lines parts);
      whole = b.whole;
      blocks = refl;
      host = latest_list (filter_map host_in parts) b.host;
      wires = refl;
      count = refl;
    }

begins_with : (text : List ℕ) (c : ConfigState) → (is : IsConfig text c) → IsBeginning (lines text) is.parts None
begins_with text c is =
    record {
      said = is.said;
      say = is.say;
      are = is.are ∙ sym (append-nil (flat_map part_lines is.parts));
      whole = is.whole;
      host = list_once c.host (filter_map host_in is.parts) is.host;
      once = λ o e. absurd cc;
    }

config_is : (text : List ℕ) (c : ConfigState) → (is : IsConfig text c) → config_at (length (lines text)) is.parts ≡ c
config_is text c is = rw (is.blocks, list_latest c.host (filter_map host_in is.parts) is.host, is.wires, is.count) refl

pub config_found : (text : List ℕ) (c : ConfigState) → config_read text ≡ Ok c → IsConfig text c
config_found text c e =
    let w = walk_of config_line finish nothing_read 0 (lines text) c e in
    let b = walked (lines text) w.0 w.1 in
    at b.parts b.opened b.begins (ap finish (sym b.is) ∙ w.2)
  where
    at : (parts : List Part) (opened : Option Opened) → IsBeginning (lines text) parts opened
        → finish (so_far (length (lines text)) parts opened) ≡ Ok c → IsConfig text c
    at parts None b f =
        subst (IsConfig text) (ok-ok (finish (so_far (length (lines text)) parts None)) (config_at (length (lines text)) parts) c
        (finish-whole (length (lines text)) parts) f) (stands_for text parts b)
    at parts (Some o) b f =
        ok-err (finish (so_far (length (lines text)) parts (Some o))) c (lacks lack.End) f (finish-open (length (lines text)) parts o)

pub config_only : (text : List ℕ) (c : ConfigState) → IsConfig text c → config_read text ≡ Ok c
config_only text c is =
    let walk = walk_of_beginning (lines text) is.parts None (begins_with text c is) in
    of_walk config_line finish nothing_read (so_far (length (lines text)) is.parts None) 0 (lines text) walk
    ∙ (ap (λ r. placed (0 + length (lines text) + 1) r) (finish-whole (length (lines text)) is.parts)
    ∙ ap Ok (config_is text c is))

pub config_fault : (text : List ℕ) (fault : Fault) → config_read text ≡ Err fault → IsConfigFault text fault
config_fault text fault e = at (first_fault config_line finish nothing_read (lines text) fault e)
  where
    bad : (h : IsFirstBadLine config_line nothing_read (lines text) fault) → Begun h.before h.state → IsBadLine text fault
    bad h b =
        record {
          before = h.before;
          line = h.line;
          after = h.after;
          parts = b.parts;
          opened = b.opened;
          cause = h.cause;
          lines = h.lines;
          begins = b.begins;
          bad = wrong_on h.before b.parts b.opened b.begins h.line h.cause (ap (λ s. config_line s h.line) (sym b.is) ∙ h.refused);
          placed = h.placed;
        }

    unended : (h : IsLacking {A = ConfigState} config_line finish nothing_read (lines text) fault) → (parts : List Part)
        (opened : Option Opened) → IsBeginning (lines text) parts opened
        → finish (so_far (length (lines text)) parts opened) ≡ Err h.cause → IsConfigFault text fault
    unended h parts None b f =
        ok-err (finish (so_far (length (lines text)) parts None)) (config_at (length (lines text)) parts) h.cause
        (finish-whole (length (lines text)) parts) f
    unended h parts (Some o) b f =
        let same : h.cause ≡ lacks lack.End =
        err-err (finish (so_far (length (lines text)) parts (Some o))) h.cause (lacks lack.End) f
        (finish-open (length (lines text)) parts o) in
        inr (record { parts = parts; opened = o; begins = b; placed = h.placed ∙ ap (fault_at (length (lines text) + 1)) same })

    at : IsFirstBadLine config_line nothing_read (lines text) fault
        ⊎ IsLacking {A = ConfigState} config_line finish nothing_read (lines text) fault → IsConfigFault text fault
    at (inl h) = inl (bad h (walked h.before h.state h.walks))
    at (inr h) =
        let b = walked (lines text) h.state h.walks in
        unended h b.parts b.opened b.begins (ap finish (sym b.is) ∙ h.refused)

pub config_refused : (text : List ℕ) (fault : Fault) → IsConfigFault text fault → config_read text ≡ Err fault
config_refused text fault (inl h) =
    of_first_bad config_line finish nothing_read (lines text) fault (record {
      before = h.before;
      line = h.line;
      after = h.after;
      state = so_far (length h.before) h.parts h.opened;
      cause = h.cause;
      lines = h.lines;
      walks = walk_of_beginning h.before h.parts h.opened h.begins;
      refused = refused_on h.before h.parts h.opened h.begins h.line h.cause h.bad;
      placed = h.placed;
    })
config_refused text fault (inr h) =
    of_lacking config_line finish nothing_read (lines text) fault (record {
      state = so_far (length (lines text)) h.parts (Some h.opened);
      cause = lacks lack.End;
      walks = walk_of_beginning (lines text) h.parts (Some h.opened) h.begins;
      refused = finish-open (length (lines text)) h.parts h.opened;
      placed = h.placed;
    })

-- reading gives exactly the configuration that the text stands for, or its first fault
pub config_reading : (text : List ℕ) → IsReading (IsConfig text) (IsConfigFault text) (config_read text)
config_reading text =
    record { found = config_found text; only = config_only text; fault = config_fault text; refused = config_refused text }
