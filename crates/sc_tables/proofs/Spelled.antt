-- What is read of a payload against what spells it, for every kind of entry.
use Rattle.std.proofs.Common.{◌≡◌, ℕ, zero, suc, ◌+◌, ◌-◌, ◌<◌, ◌≤◌, true, false, List, [], ◌∷◌, ◌++◌, length, drop, replicate, Option, Some, None, Result, Ok, Err, inl, inr, ◌⊎◌, refl, sym, ap, ◌∙◌, subst, arith, append_assoc, length-append, length-drop}
use Rattle.std.specs.Prelude.{⊤, ◌==◌, ◌↔◌}
use Rattle.std.specs.List.{All, flat_map, list_all}
use Rattle.std.proofs.lemmas.Bool.{cases_Bool, and_parts, eqb-true}
use Rattle.std.proofs.lemmas.List.{append-nil, drop_at, nil_from_length}
use Rattle.std.proofs.lemmas.List.Elements.{All-drop}
use Rattle.table_files.specs.declared.fault.EntryFault.{EntryFault}
use Rattle.sc_tables.specs.declared.reasons.EntryReason.{EntryReason}
use Rattle.sc_tables.specs.Reasons.{reason_number}
use Rattle.sc_tables.specs.Grammar.{EntryForm, is_end, read_from, read_of, fault_in}
use Rattle.sc_tables.specs.Spelling.{Spells, Fails}
use Rattle.sc_tables.proofs.Progress.{from_end, from_fault, from_entry, some_left}

abbrev pub AreBytes : List ℕ → Type 0
AreBytes bytes = All (λ b. b < 256) bytes

-- the fault that is told is the one that was read
fault_from : {E : Type 0} (read : Result (List E) EntryFault) (fault : EntryFault) → fault_in read ≡ Some fault → read ≡ Err fault
fault_from (Ok entries) fault some = cc
fault_from (Err other) fault some = let same : other ≡ fault = cc in ap Err same

-- zero bytes alone are as many zeros
pub end_is : (bytes : List ℕ) → is_end bytes ≡ true → bytes ≡ replicate (length bytes) 0
unfolding is_end
end_is [] ended = refl
end_is (b ∷ bytes) ended =
    let parts = and_parts (b == 0) (list_all (λ x. x == 0) bytes) ended in
    let first : b ≡ 0 = eqb-true b 0 parts.0 in
    let rest : bytes ≡ replicate (length bytes) 0 = end_is bytes parts.1 in
    cc

pub zeros_end : (n : ℕ) → is_end (replicate n 0) ≡ true
unfolding is_end
zeros_end zero = refl
zeros_end (suc n) = zeros_end n

-- An entry's form and how it is spelled: what an entry without a reason to be refused tells, and how what is spelled is taken.
pub record Tells {E : Type 0} (form : EntryForm E) (spelled : E → List ℕ) (Fits : List E → E → Type 0) (done : List E) (bytes : List ℕ) : Type 0 where
  pub bytes_are : bytes ≡ spelled (form.entry bytes) ++ drop (form.size bytes) bytes
  pub fits : Fits done (form.entry bytes)
  pub least : 1 ≤ form.size bytes

pub record IsTaken {E : Type 0} (form : EntryForm E) (spelled : E → List ℕ) (done : List E) (e : E) (rest : List ℕ) : Type 0 where
  pub going : is_end (spelled e ++ rest) ≡ false
  pub sound : form.reason done (spelled e ++ rest) ≡ None
  pub entry : form.entry (spelled e ++ rest) ≡ e
  pub size : form.size (spelled e ++ rest) ≡ length (spelled e)
  pub least : 1 ≤ length (spelled e)

pub record IsSpelling {E : Type 0} (form : EntryForm E) (spelled : E → List ℕ) (Fits : List E → E → Type 0) : Type 0 where
  pub tells : (done : List E) (bytes : List ℕ) → AreBytes bytes → form.reason done bytes ≡ None → Tells form spelled Fits done bytes
  pub takes : (done : List E) (e : E) (rest : List ℕ) → Fits done e → IsTaken form spelled done e rest

-- each entry fits behind those before it
abbrev pub Chain : {E : Type 0} → (List E → E → Type 0) → List E → List E → Type 0
Chain Fits done [] = ⊤
Chain Fits done (e ∷ entries) = Fits done e × Chain Fits (done ++ e ∷ []) entries

module _ {E : Type 0} (form : EntryForm E) (spelled : E → List ℕ) (Fits : List E → E → Type 0) (spelling : IsSpelling form spelled Fits) where
  -- what is spelled is read
  pub spelled_read : (entries done : List E) (rest : List ℕ) (most : ℕ) → Chain Fits done entries → length entries ≤ most
      → read_from form most done (flat_map spelled entries ++ rest) ≡ read_from form (most - length entries) (done ++ entries) rest
  spelled_read [] done rest most chain enough =
      let all : most - 0 ≡ most = omega arith in
      rw (append-nil done, all) refl
  spelled_read (e ∷ entries) done rest zero chain enough = absurd (omega arith)
  spelled_read (e ∷ entries) done rest (suc most) chain enough =
      let behind : List ℕ = flat_map spelled entries ++ rest in
      let taken = spelling.takes done e behind chain.0 in
      let whole : (spelled e ++ flat_map spelled entries) ++ rest ≡ spelled e ++ behind = append_assoc (spelled e) (flat_map spelled entries) rest in
      let one : suc most ≡ most + 1 = omega arith in
      let less : suc most - suc (length entries) ≡ most - length entries = omega arith in
      let cut : drop (length (spelled e)) (spelled e ++ behind) ≡ behind = drop_at (spelled e) behind (length (spelled e)) refl in
      let step : read_from form (suc most) done (spelled e ++ behind) ≡ read_from form most (done ++ e ∷ []) behind
      = rw one (from_entry form most done (spelled e ++ behind) taken.going taken.sound ∙ rw (taken.entry, taken.size, cut) refl) in
      let rest_read = spelled_read entries (done ++ e ∷ []) rest most chain.1 (omega arith) in
      rw (whole, less) (step ∙ (rest_read ∙ ap (λ (d : List E). read_from form (most - length entries) d rest) (append_assoc done (e ∷ []) entries)))

  -- there are at most as many entries as bytes
  pub few_spelled : (entries done : List E) → Chain Fits done entries → length entries ≤ length (flat_map spelled entries)
  few_spelled [] done chain = omega arith
  few_spelled (e ∷ entries) done chain =
      let taken = spelling.takes done e [] chain.0 in
      omega (arith, taken.least, few_spelled entries (done ++ e ∷ []) chain.1, length-append (spelled e) (flat_map spelled entries))

-- What is read of some bytes: entries, and behind them the end or the first faulty entry.
pub record IsTold {E : Type 0} (form : EntryForm E) (spelled : E → List ℕ) (Fits : List E → E → Type 0) (done : List E) (bytes : List ℕ) (read : Result (List E) EntryFault) : Type 0 where
  pub entries : List E
  pub rest : List ℕ
  pub bytes_are : bytes ≡ flat_map spelled entries ++ rest
  pub chain : Chain Fits done entries
  pub ends : ((is_end rest ≡ true) × (read ≡ Ok (done ++ entries)))
      ⊎ ((reason : EntryReason) × (is_end rest ≡ false) × (form.reason (done ++ entries) rest ≡ Some reason) × (read ≡ Err (record { entry = length (done ++ entries) + 1; reason = reason_number reason })))

module _ {E : Type 0} (form : EntryForm E) (spelled : E → List ℕ) (Fits : List E → E → Type 0) (spelling : IsSpelling form spelled Fits) where
  told_end : (done : List E) (bytes : List ℕ) (most : ℕ) → is_end bytes ≡ true → IsTold form spelled Fits done bytes (read_from form most done bytes)
  told_end done bytes most ended = record {
    entries = [];
    rest = bytes;
    bytes_are = refl;
    chain = tt;
    ends = inl (ended, from_end form most done bytes ended ∙ ap Ok (sym (append-nil done)));
  }

  told_fault : (done : List E) (bytes : List ℕ) (most : ℕ) (reason : EntryReason) → is_end bytes ≡ false → 0 < most → form.reason done bytes ≡ Some reason → IsTold form spelled Fits done bytes (read_from form most done bytes)
  told_fault done bytes most reason going some faulty = record {
    entries = [];
    rest = bytes;
    bytes_are = refl;
    chain = tt;
    ends = inr (reason, going, rw (append-nil done) faulty, rw (append-nil done) (from_fault form most done bytes reason going some faulty));
  }

  told_more : (done : List E) (bytes : List ℕ) (most : ℕ) → is_end bytes ≡ false → form.reason done bytes ≡ None → Tells form spelled Fits done bytes
      → IsTold form spelled Fits (done ++ form.entry bytes ∷ []) (drop (form.size bytes) bytes) (read_from form most (done ++ form.entry bytes ∷ []) (drop (form.size bytes) bytes))
      → IsTold form spelled Fits done bytes (read_from form (suc most) done bytes)
  told_more done bytes most going sound tells told =
      let e : E = form.entry bytes in
      let joined : (done ++ e ∷ []) ++ told.entries ≡ done ++ e ∷ told.entries = append_assoc done (e ∷ []) told.entries in
      let one : suc most ≡ most + 1 = omega arith in
      let step : read_from form (suc most) done bytes ≡ read_from form most (done ++ e ∷ []) (drop (form.size bytes) bytes) = rw one (from_entry form most done bytes going sound) in
      record {
        entries = e ∷ told.entries;
        rest = told.rest;
        bytes_are = tells.bytes_are ∙ (ap (λ (b : List ℕ). spelled e ++ b) told.bytes_are ∙ sym (append_assoc (spelled e) (flat_map spelled told.entries) told.rest));
        chain = (tells.fits, told.chain);
        ends = elim told.ends [
          | inl end ↦ inl (end.0, step ∙ (end.1 ∙ ap Ok joined))
          | inr fault ↦ inr (fault.0, fault.1, rw (← joined) fault.2, step ∙ (fault.3 ∙ rw joined refl))
        ];
      }

  by_reason : (done : List E) (bytes : List ℕ) (most : ℕ) → is_end bytes ≡ false → AreBytes bytes → (o : Option EntryReason) → form.reason done bytes ≡ o
      → (1 ≤ form.size bytes → IsTold form spelled Fits (done ++ form.entry bytes ∷ []) (drop (form.size bytes) bytes) (read_from form most (done ++ form.entry bytes ∷ []) (drop (form.size bytes) bytes)))
      → IsTold form spelled Fits done bytes (read_from form (suc most) done bytes)
  by_reason done bytes most going are None sound more =
      let tells = spelling.tells done bytes are sound in
      told_more done bytes most going sound tells (more tells.least)
  by_reason done bytes most going are (Some reason) faulty more = told_fault done bytes (suc most) reason going (omega arith) faulty

  pub told : (most : ℕ) (done : List E) (bytes : List ℕ) → AreBytes bytes → length bytes ≤ most → IsTold form spelled Fits done bytes (read_from form most done bytes)
  told zero done bytes are enough = told_end done bytes zero (let none : bytes ≡ [] = nil_from_length bytes (omega arith) in rw none (zeros_end 0))
  told (suc most) done bytes are enough =
      elim (cases_Bool (is_end bytes)) [
        | inl ended ↦ told_end done bytes (suc most) ended
        | inr going ↦ by_reason done bytes most going are (form.reason done bytes) refl
            (λ (least : 1 ≤ form.size bytes). told most (done ++ form.entry bytes ∷ []) (drop (form.size bytes) bytes) (All-drop (λ b. b < 256) (form.size bytes) bytes are) (omega (arith, length-drop (form.size bytes) bytes)))
      ]

module _ {E : Type 0} (form : EntryForm E) (spelled : E → List ℕ) (Fits : List E → E → Type 0) (spelling : IsSpelling form spelled Fits)
    (AreGood : List E → Type 0) (to_good : (entries : List E) → Chain Fits [] entries → AreGood entries) (to_chain : (entries : List E) → AreGood entries → Chain Fits [] entries) where
  spells_end : (payload rest : List ℕ) (entries others : List E) → payload ≡ flat_map spelled others ++ rest → Chain Fits [] others → is_end rest ≡ true → others ≡ entries → Spells spelled AreGood payload entries
  spells_end payload rest entries others bytes chain ended same =
      subst (Spells spelled AreGood payload) same
      (record { zeros = length rest; bytes = bytes ∙ ap (λ (r : List ℕ). flat_map spelled others ++ r) (end_is rest ended); good = to_good others chain })

  spells : (payload : List ℕ) (entries : List E) → AreBytes payload → read_of form payload ≡ Ok entries → Spells spelled AreGood payload entries
  unfolding read_of
  spells payload entries are read =
      let all = told form spelled Fits spelling (length payload) [] payload are (omega arith) in
      elim all.ends [
        | inl end ↦ let same : ◌≡◌ {A = Result (List E) EntryFault} (Ok all.entries) (Ok entries) = sym end.1 ∙ read in spells_end payload all.rest entries all.entries all.bytes_are all.chain end.0 cc
        | inr fault ↦ let other : ◌≡◌ {A = Result (List E) EntryFault} (Err (record { entry = length all.entries + 1; reason = reason_number fault.0 })) (Ok entries) = sym fault.3 ∙ read in cc
      ]

  spelled_is_read : (payload : List ℕ) (entries : List E) → Spells spelled AreGood payload entries → read_of form payload ≡ Ok entries
  unfolding read_of
  spelled_is_read payload entries it =
      let rest : List ℕ = replicate it.zeros 0 in
      let chain = to_chain entries it.good in
      let long : length payload ≡ length (flat_map spelled entries) + length rest = ap length it.bytes ∙ length-append (flat_map spelled entries) rest in
      let few = few_spelled form spelled Fits spelling entries [] chain in
      ap (read_from form (length payload) []) it.bytes
      ∙ (spelled_read form spelled Fits spelling entries [] rest (length payload) chain (omega arith)
      ∙ from_end form (length payload - length entries) entries rest (zeros_end it.zeros))

  -- a payload is read exactly where it spells entries
  pub accepted : (payload : List ℕ) (entries : List E) → AreBytes payload → (read_of form payload ≡ Ok entries) ↔ Spells spelled AreGood payload entries
  accepted payload entries are = (spells payload entries are, spelled_is_read payload entries)

  fails : (payload : List ℕ) (fault : EntryFault) → AreBytes payload → read_of form payload ≡ Err fault → Fails form spelled AreGood payload fault
  unfolding read_of
  fails payload fault are read =
      let all = told form spelled Fits spelling (length payload) [] payload are (omega arith) in
      elim all.ends [
        | inl end ↦ let other : ◌≡◌ {A = Result (List E) EntryFault} (Ok all.entries) (Err fault) = sym end.1 ∙ read in cc
        | inr bad ↦
            let same : ◌≡◌ {A = Result (List E) EntryFault} (Err (record { entry = length all.entries + 1; reason = reason_number bad.0 })) (Err fault) = sym bad.3 ∙ read in
            record { entries = all.entries; rest = all.rest; reason = bad.0; bytes = all.bytes_are; good = to_good all.entries all.chain; going = bad.1; refused = bad.2; entry = cc; number = cc }
      ]

  failed_is_refused : (payload : List ℕ) (fault : EntryFault) → Fails form spelled AreGood payload fault → read_of form payload ≡ Err fault
  unfolding read_of
  failed_is_refused payload fault it =
      let chain = to_chain it.entries it.good in
      let long : length payload ≡ length (flat_map spelled it.entries) + length it.rest = ap length it.bytes ∙ length-append (flat_map spelled it.entries) it.rest in
      let few = few_spelled form spelled Fits spelling it.entries [] chain in
      let some = some_left it.rest it.going in
      ap (read_from form (length payload) []) it.bytes
      ∙ (spelled_read form spelled Fits spelling it.entries [] it.rest (length payload) chain (omega arith)
      ∙ (from_fault form (length payload - length it.entries) it.entries it.rest it.reason it.going (omega arith) it.refused
      ∙ rw (← it.entry, ← it.number) refl))

  -- and is refused exactly where something else stands behind the entries that it spells
  pub refused : (payload : List ℕ) (fault : EntryFault) → AreBytes payload → (fault_in (read_of form payload) ≡ Some fault) ↔ Fails form spelled AreGood payload fault
  refused payload fault are =
      (λ told. fails payload fault are (fault_from (read_of form payload) fault told), λ it. ap fault_in (failed_is_refused payload fault it))
