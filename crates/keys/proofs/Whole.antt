-- What the code answers, from what the judge noted, is the message's key.
use mathlib.Core.Path.{◌≡◌, refl, ap, ◌∙◌}
use mathlib.Core.Bool.{Bool, true, false}
use mathlib.Core.Option.{Option, none, some}
use mathlib.Core.List.{List, [], ◌∷◌}
use Prim.Native.Nat.{ℕ, suc}
use Rattle.std.specs.Prelude as rattle
use Rattle.std.specs.Prelude.{Result, Ok, Err}
use Rattle.text.specs.Quoted.{bytes, is}
use Rattle.answers.specs.declared.Refused.{Refused}
use Rattle.text.proofs.Truths.{never}
use Rattle.answers.specs.Given.{Given, worth, refused as no}
use Rattle.codes.specs.declared.Element.TheVariants.{LclInstrm}
use Rattle.codes.specs.Listed.{or_else, code_given}
use Rattle.profile.specs.declared.Kind.TheVariants.{Code}
use Rattle.profile.specs.declared.Field.TheVariants.{MsgId, InstgBic, IntrBkSttlmDt}
use Rattle.profile.specs.declared.Version.{Version}
use Rattle.profile.specs.declared.Version.TheVariants.{V02, V08}
use Rattle.profile.specs.Profile.{profile}
use Rattle.reading.specs.Trace.{Entry, message}
use Rattle.reading.specs.Noted.{Reading, Ended, noted}
use Rattle.reading.specs.Verdict.{Judged, accepted, refused}
use Rattle.reading.specs.Rules.{values_of, first_of}
use Rattle.reading.specs.Judged.{whats, listed, judged}
use Rattle.reading.specs.Items.{notes_of}
use Rattle.reading.proofs.Lists.{alike_same}
use Rattle.reading.proofs.More.{lenient, read_on, ids_of, second_in, twice_or, twice_or_lem}
use Rattle.reading.proofs.Simulates.{Alike, going, stopped, Beside, simulates}
use Rattle.items.specs.Sure.{sure}
use Rattle.items.proofs.Places.{accepted_there}
use Rattle.notes.specs.declared.Notes.{Notes}
use Rattle.notes.specs.Notes.{fresh, in_notes}
use Rattle.notes.proofs.Sums.{Served, Summed, summed_fresh, sums}
use Rattle.naming.specs.Key.{service_of, key_of, key_if, keyed, Keyed as KeyedBulk}
use Rattle.judge.specs.declared.Survey.{Survey}
use Rattle.judge.specs.Index.{or_short, survey_with}
use Rattle.judge.proofs.Index.{made_of}
use Rattle.keys.specs.Indexed.{keyed_with}
use Rattle.judge.specs.Found.{denied, Found, found_by, found}
use Rattle.judge.specs.Survey.{without, Surveyed, surveyed_as, from_one, place_from_one, service_number, places, surveyed, survey}
use Rattle.judge.proofs.Judges.{survey_found}
use Rattle.judge.proofs.Walks.{found_verdict}
use Rattle.keys.specs.Engine.{keyed_as, service_text, key_from, made_if, keyed_from}

-- ---- the header's values of the key are surely there
id_sure : (v : Version) → sure MsgId (profile v) ≡ true
unfolding profile
id_sure V02 = refl
id_sure V08 = refl

bic_sure : (v : Version) → sure InstgBic (profile v) ≡ true
unfolding profile
bic_sure V02 = refl
bic_sure V08 = refl

date_sure : (v : Version) → sure IntrBkSttlmDt (profile v) ≡ true
unfolding profile
date_sure V02 = refl
date_sure V08 = refl

-- ---- the service, by its number
code_text : (w : List ℕ) (i : ℕ) → code_given LclInstrm w ≡ worth i → service_text (suc i) ≡ w
unfolding code_given
code_text w i = go (is "CORE" w) (is "B2B" w) refl refl
  where
    go : (b c : Bool) → is "CORE" w ≡ b → is "B2B" w ≡ c → or_else b 0 (or_else c 1 (no 10)) ≡ worth i → service_text (suc i) ≡ w
    go true c p q e =
        let z : i ≡ 0 = cc in
        rw z (alike_same (bytes "CORE") w p)
    go false true p q e =
        let z : i ≡ 1 = cc in
        rw z (alike_same (bytes "B2B") w q)
    go false false p q e = never (cc)

served_text : (ss : List (List ℕ)) (n : rattle.Option ℕ) → Served ss n → service_text (place_from_one (code_given LclInstrm (first_of [] ss))) ≡ first_of [] ss
unfolding code_given
served_text [] n h = refl
served_text (w ∷ l) n h = ap (λ (g : Given). service_text (place_from_one g)) h.1 ∙ code_text w h.0 h.1

-- of a reading
abbrev Texts : Reading (Ended (List Entry)) → Type 0
Texts x = service_text (place_from_one (code_given LclInstrm (service_of (whats (notes_of x))))) ≡ service_of (whats (notes_of x))

module _ (m : List ℕ) where
  abbrev es : List Entry
  es = notes_of (noted listed (message m) [])

  pub service_text_lem : service_text (service_number (whats es)) ≡ service_of (whats es)
  unfolding service_number code_given
  service_text_lem = rw (twice_or_lem (message m)) (either (second_in [] (ids_of (read_on (message m) []))))
    where
      go : (x : Reading (Ended (List Entry))) (y : Reading (Ended Notes)) → Alike (Beside Summed) x y → Texts x
      go x y (going {s = a} {t = b} r) = served_text (values_of (Code LclInstrm) (whats a.notes)) b.notes.service r.notes.service
      go x y stopped = refl

      either : (o : Option ℕ) → Texts (twice_or o (noted lenient (message m) []))
      either none = go (noted lenient (message m) []) (noted in_notes (message m) fresh) (simulates Summed lenient in_notes sums (message m) [] fresh summed_fresh)
      either (some p) = refl

  -- ---- the whole key of an accepted message
  key_is : (n c : ℕ) → judged m ≡ accepted n c → key_from m (service_number (whats es)) (places es) ≡ key_of (whats es)
  unfolding key_from places
  key_is n c e =
      rw (service_text_lem, accepted_there m MsgId n c e id_sure, accepted_there m InstgBic n c e bic_sure, accepted_there m IntrBkSttlmDt n c e date_sure)

  -- what was noted of it
  pub noted_is : (n c : ℕ) → judged m ≡ accepted n c → survey m ≡ record { found = found m; service = service_number (whats es); places = places es }
  unfolding survey found
  noted_is n c e = go (found_by (noted listed (message m) [])) (found_verdict m ∙ e)
    where
      go : (x : Found) → x.verdict ≡ accepted n c
          → surveyed x (service_number (whats es)) (places es) ≡ record { found = x; service = service_number (whats es); places = places es }
      go x h = rw h

  pub verdict_is : (survey m).found.verdict ≡ judged m
  verdict_is = ap (λ (x : Found). x.verdict) (survey_found m) ∙ found_verdict m

  -- so of any message
  from-survey : keyed_from m (survey m) ≡ keyed m
  unfolding keyed_from keyed
  from-survey = go (judged m) refl
    where
      made : Judged → List ℕ → KeyedBulk
      made j k = record { verdict = j; key = made_if j k }

      key : List ℕ
      key = key_from m (survey m).service (survey m).places

      go : (j : Judged) → judged m ≡ j → made (survey m).found.verdict key ≡ record { verdict = judged m; key = key_if (judged m) (whats es) }
      go (accepted n c) e =
          rw (verdict_is, e) (ap (made (accepted n c)) (ap (λ (x : Surveyed). key_from m x.service x.places) (noted_is n c e) ∙ key_is n c e))
      go (refused n p) e = rw (verdict_is, e)

-- ---- with an index
pub from_survey_with : (index m : List ℕ) (s : Surveyed) → s ≡ survey_with index m → keyed_from m s ≡ keyed_with index m
unfolding keyed_from
from_survey_with index m s e =
    ap (keyed_from m) e ∙ (made_of (keyed_from m) index (without (denied 25 0)) (survey m) ∙ ap (λ (x : KeyedBulk). or_short index (keyed_from m (without (denied 25 0))) x) (from-survey m) ∙ none)
  where
    none : or_short index (keyed_from m (without (denied 25 0))) (keyed m) ≡ keyed_with index m
    none = refl

-- from what the code read: a refusal's, and an acceptance's
pub keyed_unread : (m : List ℕ) (r : Refused) → keyed_as (Err r) ≡ keyed_from m (surveyed_as (Err r))
unfolding keyed_from
keyed_unread m r = refl

pub keyed_refused : (index m : List ℕ) (r : Refused) → surveyed_as (Err r) ≡ survey_with index m → keyed_as (Err r) ≡ keyed_with index m
unfolding keyed_from
keyed_refused index m r e = from_survey_with index m (surveyed_as (Err r)) e

pub keyed_accepted : (m : List ℕ) (s : Survey) (k : List ℕ) → k ≡ key_from m (from_one s.service) s.starts
    → keyed_as (Ok (record { accepted = s.finding.accepted; key = k })) ≡ keyed_from m (surveyed_as (Ok s))
unfolding keyed_from
keyed_accepted m s k e = rw e
