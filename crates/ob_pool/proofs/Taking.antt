-- What a sink took of what receipts send.
use Rattle.std.proofs.Common.{◌≡◌, ℕ, ◌+◌, ◌<◌, ◌≤◌, Bool, true, false, List, [], ◌∷◌, ◌++◌, length, map, take, cond}
use Rattle.std.proofs.Common.{append-nil, ap₂, eq-eqb, eqb, refl, sym, ap, ◌∙◌, subst, append_assoc, arith}
use Rattle.std.proofs.Common.{length-append, get_or}
use Rattle.std.proofs.Math.Seq.{drop-append_seam}
use Rattle.std.proofs.lemmas.Grind.{flat_map-append}
use Rattle.std.proofs.lemmas.List.{append_cancel_left, map-append, take-append-le}
use Rattle.std.proofs.lemmas.List.Concat.{flat_map-cons}
use Rattle.std.proofs.lemmas.List.Elements.{All-append, All-head, All-map, All-nil, All-cons, All-tail, All-weaker}
use Rattle.std.proofs.lemmas.List.Folds.{flat_map-map}
use Rattle.std.proofs.lemmas.List.Sums.{sum_by-append, sum_by-cons}
use Rattle.std.proofs.lemmas.Result.{IfOk-at_ok}
use Rattle.std.specs.Prelude.{IfOk, IsOkAnd, Result, Ok, Err, Some, count_by, drop, is_ok, slice_get, sum_by}
use Rattle.std.specs.List.{All, flat_map}
use Rattle.ob_seq.specs.Effect.{rows_after}
use Rattle.ob_seq.specs.Rows.{Settings}
use Rattle.ob_history.specs.History.{accepted_commands, IsBeginning, History, IsLegal, receipts_since, records_of}
use Rattle.ob_history.specs.History.{receipt_of, record_of}
use Rattle.ob_history.specs.declared.receipt.Receipt.{Receipt}
use Rattle.ob_history.specs.declared.record.Record.{Record}
use Rattle.ob_shared.specs.Calls.{Handed, Maker, ShareValue}
use Rattle.ob_transport.specs.Pass.{GrowAlike, standing}
use Rattle.ob_transport.specs.Sent.{Sent, nothing, sent_by, sent_bytes, sent_in, sent_units, Content}
use Rattle.ob_transport.proofs.Sent.{at_seam, bytes_by_records, units_by_records}
use Rattle.ob_pool.specs.Report.{failings_of, is_failing}
use Rattle.ob_pool.specs.Threads.{commands_in, GrowsBy, HasTakenOf, HasTransported, failings_in, sent_at}

-- two ways to send that agree on each of a list send the same together
bytes_agree : {X : Type 0} (one other : X → Sent) (xs : List X) → All (λ x. one x ≡ other x) xs →
    flat_map (λ x. (one x).bytes) xs ≡ flat_map (λ x. (other x).bytes) xs
bytes_agree one other [] all = refl
bytes_agree one other (x ∷ xs) all =
    flat_map-cons (λ y. (one y).bytes) x xs
    ∙ ap (λ (sent : Sent). sent.bytes ++ flat_map (λ y. (one y).bytes) xs) (All-head (λ y. one y ≡ other y) x xs all)
    ∙ ap (λ more. (other x).bytes ++ more) (bytes_agree one other xs (All-tail (λ y. one y ≡ other y) x xs all))
    ∙ sym (flat_map-cons (λ y. (other y).bytes) x xs)

units_agree : {X : Type 0} (one other : X → Sent) (xs : List X) → All (λ x. one x ≡ other x) xs →
    sum_by (λ x. (one x).units) xs ≡ sum_by (λ x. (other x).units) xs
units_agree one other [] all = refl
units_agree one other (x ∷ xs) all =
    sum_by-cons (λ y. (one y).units) x xs
    ∙ ap (λ (sent : Sent). sent.units + sum_by (λ y. (one y).units) xs) (All-head (λ y. one y ≡ other y) x xs all)
    ∙ ap (λ more. (other x).units + more) (units_agree one other xs (All-tail (λ y. one y ≡ other y) x xs all))
    ∙ sym (sum_by-cons (λ y. (other y).units) x xs)

sum_of_map : {X Y : Type 0} (f : Y → ℕ) (g : X → Y) (xs : List X) → sum_by f (map g xs) ≡ sum_by (λ x. f (g x)) xs
sum_of_map f g [] = refl
sum_of_map f g (x ∷ xs) =
    sum_by-cons f (g x) (map g xs) ∙ ap (λ sum. f (g x) + sum) (sum_of_map f g xs)
    ∙ sym (sum_by-cons (λ y. f (g y)) x xs)

module _ (settings : Settings) where
  -- a record sends in a longer history what it sends in its beginning, if its place is there
  sent_further : (first all : List Record) (one : Record) → IsBeginning first all → one.place ≤ length first →
      sent_in settings first one ≡ sent_in settings all one
  sent_further first all one begins within =
      let same : take one.place first ≡ take one.place all =
      sym (take-append-le one.place first begins.rest within) ∙ ap (take one.place) begins.whole in
      ap (λ earlier. cond (is_ok one.reply)
      (sent_by (rows_after settings.estimate (accepted_commands earlier)) one.command) nothing) same

  -- so do receipts
  receipts_further : (first all : List Record) (receipts : List Receipt) → IsBeginning first all →
      All (λ receipt. receipt.place < length first) receipts →
      All (λ receipt. sent_at settings first receipt ≡ sent_at settings all receipt) receipts
  receipts_further first all receipts begins within = λ k d inside.
      let place = within k d inside in
      sent_further first all (record_of (get_or receipts k d)) begins (omega (arith, place))

  longer : (first all : List Record) → IsBeginning first all → length first ≤ length all
  longer first all begins =
      omega (arith, length-append first begins.rest, ap (λ (records : List Record). length records) begins.whole)

  -- what was taken in a history was taken in a longer one
  pub taken_further : (first all : List Record) (receipts : List Receipt) (before after : Content) →
      IsBeginning first all → HasTakenOf settings first receipts before after →
      HasTakenOf settings all receipts before after
  taken_further first all receipts before after begins taken =
      let same = receipts_further first all receipts begins taken.places in
      let more = longer first all begins in
      record {
        places = λ k d inside. let place = taken.places k d inside in omega (arith, place, more);
        bytes = taken.bytes ∙ ap (λ bytes. before.bytes ++ bytes)
            (bytes_agree (sent_at settings first) (sent_at settings all) receipts same);
        units = taken.units ∙ ap (λ units. before.units + units)
            (units_agree (sent_at settings first) (sent_at settings all) receipts same);
      }

  -- each record of a legal history stands before its end
  places_within : (all : List Record) → IsLegal settings all → (earlier rest : List Record) → earlier ++ rest ≡ all →
      All (λ one. one.place < length all) rest
  places_within all legal earlier [] split = All-nil (λ (one : Record). one.place < length all)
  places_within all legal earlier (one ∷ rest) split =
      let there = subst (λ (records : List Record). slice_get records (length earlier) ≡ Some one) split
      (at_seam earlier one rest) in
      let place = (legal (length earlier) one there).place in
      let size = ap (λ (records : List Record). length records) split in
      let sum = length-append earlier (one ∷ rest) in
      All-cons (λ (its : Record). its.place < length all) one rest (omega (arith, place, size, sum))
      (places_within all legal (earlier ++ one ∷ []) rest (append_assoc earlier (one ∷ []) rest ∙ split))

  -- what a history sends more than its beginning, its records behind that send
  module _ (before more : List Record) (was : IsLegal settings before) (legal : IsLegal settings (before ++ more)) where
    abbrev sends : Record → Sent
    sends one = sent_in settings (before ++ more) one

    begins : IsBeginning before (before ++ more)
    begins = record { rest = more; whole = refl }

    as_before : All (λ one. sends one ≡ sent_in settings before one) before
    as_before = λ k d inside.
        let place = places_within before was [] before refl k d inside in
        sym (sent_further before (before ++ more) (get_or before k d) begins (omega (arith, place)))

    bytes_behind : sent_bytes settings (before ++ more)
        ≡ sent_bytes settings before ++ flat_map (λ one. (sends one).bytes) more
    bytes_behind =
        bytes_by_records settings (before ++ more) legal
        ∙ flat_map-append (λ (one : Record). (sends one).bytes) before more
        ∙ ap (λ bytes. bytes ++ flat_map (λ (one : Record). (sends one).bytes) more)
        (bytes_agree sends (sent_in settings before) before as_before ∙ sym (bytes_by_records settings before was))

    units_behind : sent_units settings (before ++ more)
        ≡ sent_units settings before + sum_by (λ one. (sends one).units) more
    units_behind =
        units_by_records settings (before ++ more) legal
        ∙ sum_by-append (λ (one : Record). (sends one).units) before more
        ∙ ap (λ units. units + sum_by (λ (one : Record). (sends one).units) more)
        (units_agree sends (sent_in settings before) before as_before ∙ sym (units_by_records settings before was))

    -- if a sink takes just what is sent more, it has taken what the receipts behind the others send
    pub taken_more : (receipts : List Receipt) (start old new : Content) (bytes : List ℕ) (units : ℕ) →
        new.bytes ≡ old.bytes ++ bytes → sent_bytes settings (before ++ more) ≡ sent_bytes settings before ++ bytes →
        new.units ≡ old.units + units → sent_units settings (before ++ more) ≡ sent_units settings before + units →
        HasTakenOf settings before receipts start old →
        HasTakenOf settings (before ++ more) (receipts ++ map receipt_of more) start new
    taken_more receipts start old new bytes units took sent counted told taken =
        let all = before ++ more in
        let along = taken_further before all receipts start old begins taken in
        let same : bytes ≡ flat_map (λ (one : Record). (sends one).bytes) more =
        append_cancel_left (sent_bytes settings before) bytes (flat_map (λ (one : Record). (sends one).bytes) more)
        (sym sent ∙ bytes_behind) in
        let earlier = flat_map (λ (receipt : Receipt). (sent_at settings all receipt).bytes) receipts in
        let behind = flat_map-append (λ (receipt : Receipt). (sent_at settings all receipt).bytes) receipts
        (map receipt_of more)
        ∙ ap (λ its. earlier ++ its)
        (flat_map-map (λ (receipt : Receipt). (sent_at settings all receipt).bytes) receipt_of more) in
        record {
          places = All-append (λ (receipt : Receipt). receipt.place < length all) receipts (map receipt_of more)
              along.places (All-map (λ (receipt : Receipt). receipt.place < length all) receipt_of more
              (places_within all legal before more refl));
          bytes = took ∙ ap (λ its. its ++ bytes) along.bytes ∙ append_assoc start.bytes earlier bytes
              ∙ ap (λ its. start.bytes ++ (earlier ++ its)) same ∙ ap (λ its. start.bytes ++ its) (sym behind);
          units = omega (
            arith,
            counted,
            told,
            along.units,
            units_behind,
            sum_by-append (λ (receipt : Receipt). (sent_at settings all receipt).units) receipts (map receipt_of more),
            sum_of_map (λ (receipt : Receipt). (sent_at settings all receipt).units) receipt_of more,
          );
        }

  -- what is added up over records, of which those of others add nothing, is added up over those of one caller
  own_sum : (A : Type 0) (sum : List Record → A) (add : Record → A → A) →
      ((one : Record) (rest : List Record) → sum (one ∷ rest) ≡ add one (sum rest)) → (caller : ℕ) (records : List Record) →
      All (λ one. eqb one.caller caller ≡ false → (rest : A) → add one rest ≡ rest) records →
      sum records ≡ sum (records_of caller records)
  own_sum A sum add first caller [] none = refl
  own_sum A sum add first caller (one ∷ records) none =
      first one records ∙ by_caller (eqb one.caller caller) refl (own_sum A sum add first caller records
      (All-tail (λ its. eqb its.caller caller ≡ false → (rest : A) → add its rest ≡ rest) one records none))
    where
      by_caller : (is : Bool) → eqb one.caller caller ≡ is → sum records ≡ sum (records_of caller records) →
          add one (sum records) ≡ sum (cond is (one ∷ records_of caller records) (records_of caller records))
      by_caller true is rest = ap (add one) rest ∙ sym (first one (records_of caller records))
      by_caller false is rest =
          All-head (λ its. eqb its.caller caller ≡ false → (more : A) → add its more ≡ more) one records none is (sum records)
          ∙ rest

  -- of records of which all others send nothing those of one caller send all
  own_bytes : (part : Record → Sent) (caller : ℕ) (records : List Record) →
      All (λ one. eqb one.caller caller ≡ false → part one ≡ nothing) records →
      flat_map (λ one. (part one).bytes) records ≡ flat_map (λ one. (part one).bytes) (records_of caller records)
  own_bytes part caller records none =
      let add : Record → List ℕ → List ℕ = λ one rest. (part one).bytes ++ rest in
      own_sum (List ℕ) (flat_map (λ one. (part one).bytes)) add (flat_map-cons (λ one. (part one).bytes)) caller records
      (All-weaker (λ one. eqb one.caller caller ≡ false → part one ≡ nothing)
      (λ one. eqb one.caller caller ≡ false → (rest : List ℕ) → add one rest ≡ rest)
      (λ one quiet other rest. ap (λ (sent : Sent). sent.bytes ++ rest) (quiet other)) records none)

  own_units : (part : Record → Sent) (caller : ℕ) (records : List Record) →
      All (λ one. eqb one.caller caller ≡ false → part one ≡ nothing) records →
      sum_by (λ one. (part one).units) records ≡ sum_by (λ one. (part one).units) (records_of caller records)
  own_units part caller records none =
      let add : Record → ℕ → ℕ = λ one rest. (part one).units + rest in
      own_sum ℕ (sum_by (λ one. (part one).units)) add (sum_by-cons (λ one. (part one).units)) caller records
      (All-weaker (λ one. eqb one.caller caller ≡ false → part one ≡ nothing)
      (λ one. eqb one.caller caller ≡ false → (rest : ℕ) → add one rest ≡ rest)
      (λ one quiet other rest. let none_sent = ap (λ (sent : Sent). sent.units) (quiet other) in omega (arith, none_sent))
      records none)

  -- if a caller has the receipts of all its records, and all others send nothing, what is taken of its receipts is
  -- what the history sends
  pub taken_whole : (records : List Record) (receipts : List Receipt) (caller : ℕ) (before after : Content) →
      IsLegal settings records → HasTakenOf settings records receipts before after →
      map record_of receipts ≡ records_of caller records →
      All (λ one. eqb one.caller caller ≡ false → sent_in settings records one ≡ nothing) records →
      (after.bytes ≡ before.bytes ++ sent_bytes settings records)
      × (after.units ≡ before.units + sent_units settings records)
  taken_whole records receipts caller before after legal taken own none =
      let bytes_of = λ (one : Record). (sent_in settings records one).bytes in
      let units_of = λ (one : Record). (sent_in settings records one).units in (
        taken.bytes ∙ ap (λ bytes. before.bytes ++ bytes)
            (sym (flat_map-map bytes_of record_of receipts) ∙ ap (flat_map bytes_of) own
            ∙ sym (own_bytes (sent_in settings records) caller records none)
            ∙ sym (bytes_by_records settings records legal)),
        taken.units ∙ ap (λ units. before.units + units)
            (sym (sum_of_map units_of record_of receipts) ∙ ap (sum_by units_of) own
            ∙ sym (own_units (sent_in settings records) caller records none)
            ∙ sym (units_by_records settings records legal)),
      )

  -- a pass between two histories that were kept as they were opened, whose receipts are kept
  pub pass_taken : (before after : History) (more : List Record) (receipts kept : List Receipt)
      (start old new : Content) → before.settings ≡ settings → after.settings ≡ settings →
      IsLegal settings before.records → IsLegal settings after.records → after.records ≡ before.records ++ more →
      kept ≡ receipts ++ map receipt_of more →
      GrowAlike (standing before old) (standing after new) → HasTakenOf settings before.records receipts start old →
      HasTakenOf settings after.records kept start new
  pass_taken before after more receipts kept start old new its_settings its was legal is receipts_are alike taken =
      let legally = subst (IsLegal settings) is legal in
      let bytes = ap (sent_bytes settings) (sym is) ∙ ap (λ its. sent_bytes its after.records) (sym its)
      ∙ alike.bytes.2 ∙ ap (λ its. sent_bytes its before.records ++ alike.bytes.0) its_settings in
      let units = ap (sent_units settings) (sym is) ∙ ap (λ its. sent_units its after.records) (sym its)
      ∙ alike.units.2 ∙ ap (λ its. sent_units its before.records + alike.units.0) its_settings in
      subst (λ (all : List Record). HasTakenOf settings all kept start new) (sym is)
      (subst (λ (all : List Receipt). HasTakenOf settings (before.records ++ more) all start new) (sym receipts_are)
      (taken_more before.records more was legally receipts start old new alike.bytes.0 alike.units.0 alike.bytes.1 bytes
      alike.units.1 units taken))

-- of records that a caller alone has made all are its own
own_records : (caller : ℕ) (more : List Record) → All (λ one. one.caller ≡ caller) more → records_of caller more ≡ more
own_records caller [] own = refl
own_records caller (one ∷ more) own =
    let its = eq-eqb one.caller caller (All-head (λ (its : Record). its.caller ≡ caller) one more own) in
    ap (λ own. cond own (one ∷ records_of caller more) (records_of caller more)) its
    ∙ ap (λ rest. one ∷ rest) (own_records caller more (All-tail (λ (its : Record). its.caller ≡ caller) one more own))

-- so the receipts since then are those of what it has made
pub receipts_of_own : (caller : ℕ) (before after : List Record) (grown : GrowsBy caller before after) →
    receipts_since caller (length before) after ≡ map receipt_of grown.more
receipts_of_own caller before after grown =
    ap (λ records. map receipt_of (records_of caller (drop (length before) records))) grown.grown
    ∙ ap (λ records. map receipt_of (records_of caller records)) (drop-append_seam before grown.more)
    ∙ ap (map receipt_of) (own_records caller grown.more grown.own)

-- and the kept receipts are those before, and these
pub kept_of_pass : (caller its place : ℕ) (before after : List Record) (grown : GrowsBy caller before after)
    (receipts own kept : List Receipt) → its ≡ caller → place ≡ length before → own ≡ receipts_since its place after →
    kept ≡ receipts ++ own → kept ≡ receipts ++ map receipt_of grown.more
kept_of_pass caller its place before after grown receipts own kept same at since is =
    is
    ∙ ap (λ rest. receipts ++ rest)
    (since ∙ ap₂ (λ who from. receipts_since who from after) same at ∙ receipts_of_own caller before after grown)

-- what follows of a pass and of its receipts, if both are there
pub if_kept : {A E V F : Type 0} (kept next : Result A E) (own : Result V F) (Given Follows : A → Type 0)
    (Kept : V → Type 0) → IfOk kept (λ then. next ≡ Ok then) → IfOk kept (λ then. IsOkAnd own Kept) → IfOk next Given →
    ((then : A) (value : V) → own ≡ Ok value → Kept value → Given then → Follows then) → IfOk kept Follows
if_kept (Ok then) next (Ok value) Given Follows Kept is kept given follow =
    follow then value refl kept (IfOk-at_ok Given is given)
if_kept (Ok then) next (Err error) Given Follows Kept is kept given follow = absurd kept
if_kept (Err error) next own Given Follows Kept is kept given follow = tt

-- the receipts of records fail as often as these
failings_of_receipts : (records : List Record) → failings_in (map receipt_of records) ≡ failings_of records
failings_of_receipts [] = refl
failings_of_receipts (one ∷ records) =
    sum_by-cons (λ command. cond (is_failing command) 1 0) one.command (commands_in (map receipt_of records))
    ∙ ap (λ rest. cond (is_failing one.command) 1 0 + rest) (failings_of_receipts records)
    ∙ sym (sum_by-cons (λ (one : Record). cond (is_failing one.command) 1 0) one records)

-- what failed since then is told alike by the records and by the receipts
pub failings_since : (before after more : List Record) (receipts kept : List Receipt) → after ≡ before ++ more →
    kept ≡ receipts ++ map receipt_of more →
    failings_in kept + failings_of before ≡ failings_in receipts + failings_of after
failings_since before after more receipts kept grown are =
    let of_receipts = ap failings_in are
    ∙ ap (count_by is_failing) (map-append (λ (receipt : Receipt). receipt.command) receipts (map receipt_of more))
    ∙ sum_by-append (λ command. cond (is_failing command) 1 0) (commands_in receipts)
    (commands_in (map receipt_of more)) in
    let of_records = ap failings_of grown
    ∙ sum_by-append (λ (one : Record). cond (is_failing one.command) 1 0) before more in
    omega (arith, of_receipts, of_records, failings_of_receipts more)

-- what a transport hands in with this share and these receipts
abbrev pub handed_of : ShareValue → List Receipt → Handed
handed_of share receipts =
    record { maker = share.maker; sight = share.sight; receipts = receipts; told = []; seen = [] }

-- a transport that has just begun has carried nothing
pub nothing_transported : (settings : Settings) (share : ShareValue) (content : Content) →
    HasTransported settings share.maker content content (handed_of share [])
nothing_transported settings share content = record {
  caller = refl;
  failings = omega arith;
  taken = record {
    places = All-nil (λ (receipt : Receipt). receipt.place < length share.sight.seen);
    bytes = sym (append-nil content.bytes);
    units = omega arith;
  };
}

-- a transport that has carried on so far has so with one pass more
pub one_more_pass : (settings : Settings) (maker its : Maker) (share left : ShareValue) (records : List Record)
    (receipts kept : List Receipt) (before old new : Content) →
    HasTransported settings maker before old (handed_of share receipts) → its ≡ share.maker →
    IsBeginning share.sight.seen records → left.maker.caller ≡ its.caller →
    failings_in kept + old.failures ≡ failings_in receipts + new.failures →
    ((start : Content) → HasTakenOf settings records receipts start old →
    HasTakenOf settings left.sight.seen kept start new) →
    HasTransported settings maker before new (handed_of left kept)
one_more_pass settings maker its share left records receipts kept before old new carried same part caller fails
    takes = record {
      caller = caller ∙ ap (λ (m : Maker). m.caller) same ∙ carried.caller;
      failings = omega (arith, fails, carried.failings);
      taken = takes before (taken_further settings share.sight.seen records receipts before old part carried.taken);
    }
