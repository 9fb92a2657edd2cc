-- A transcript, byte by byte.
use Rattle.std.proofs.Common.{◌≡◌, ℕ, ◌+◌, List, [], ◌∷◌, ◌++◌, length, take, Option, Some, None, true, refl, sym, ap, ◌∙◌, subst, append_assoc, append-nil, inl, inr, ◌⊎◌, length-append}
use Rattle.std.proofs.Math.Seq.{take-append-add, take-length}
use Rattle.std.specs.Option.{option_map}
use Rattle.dsm_io.specs.Causes.{Appends, Rose}
use Rattle.dsm_io.specs.States.{SinkState}
use Rattle.byte_source.specs.Sources.{Gives, SourceState}
use Rattle.gdb_session.specs.gdb_remote.Readings.{step}
use Rattle.gdb_session.specs.gdb_remote.declared.request.Point.{Point}
use Rattle.gdb_session.specs.declared.session.After.TheVariants.{GoesOn}
use Rattle.gdb_session.specs.declared.target.Doing.{Doing}
use Rattle.gdb_session.specs.declared.target.Motion.{Motion}
use Rattle.gdb_session.specs.declared.target.Stop.{Stop}
use Rattle.gdb_session.specs.Servers.{Server, is_request, last_after}
use Rattle.gdb_session.specs.Views.{View}
use Rattle.gdb_server.specs.declared.ServeEnd.{ServeEnd}
use Rattle.gdb_server.specs.declared.ServeError.{ServeError}
use Rattle.gdb_server.specs.declared.ServeError.TheVariants.{Input, Output, OutOfMemory}
use Rattle.gdb_server.specs.Transcripts.{Standing, opening, event_of, heard_by, put_at_once, IsAnswered, IsAnsweredIf, Hears, Serves}
use Rattle.gdb_server.specs.Ends.{Streams, IsEnd, HasServed, IsBeginning, HasBroken, Fails}
use Rattle.gdb_server.specs.Parts.{standing, HasHeard, HasPut, RisesBy, HasAnswered, BreaksAnswerOff, BreaksOff}

-- nothing was put, and what is put behind something
pub puts_nothing : (o : Option (List ℕ)) → Appends o o []
puts_nothing None = refl
puts_nothing (Some taken) = ap Some (sym (append-nil taken))

pub puts_more : (o : Option (List ℕ)) (first rest : List ℕ) (now : Option (List ℕ))
    → now ≡ option_map (λ taken. taken ++ rest) (option_map (λ taken. taken ++ first) o)
    → Appends o now (first ++ rest)
puts_more None first rest now e = e
puts_more (Some taken) first rest now e = e ∙ ap Some (append_assoc taken first rest)

-- nothing came, and what comes behind something
pub comes_nothing : (o : Option (List ℕ)) → Gives o [] o
comes_nothing None = refl
comes_nothing (Some rest) = refl

pub comes_more : (before middle now : Option (List ℕ)) (first rest : List ℕ)
    → Gives before first middle → Gives middle rest now → Gives before (first ++ rest) now
comes_more before middle None first rest e f = e ∙ ap (option_map (λ r. first ++ r)) f
comes_more before middle (Some now) first rest e f =
    e ∙ ap (option_map (λ r. first ++ r)) f ∙ ap Some (sym (append_assoc first rest now))

pub puts_on : (before middle now : Option (List ℕ)) (first rest : List ℕ)
    → Appends before middle first → Appends middle now rest → Appends before now (first ++ rest)
puts_on before middle now first rest e f =
    puts_more before first rest now (f ∙ ap (option_map (λ taken. taken ++ rest)) e)

rises_from : (e : ServeError) (o o1 o2 : SinkState) → o1.faults ≡ o.faults → RisesBy e o1 o2 → RisesBy e o o2
rises_from Input o o1 o2 same r = r
rises_from Output o o1 o2 same r = subst (λ (n : ℕ). Rose n o2.faults) same r
rises_from OutOfMemory o o1 o2 same r = r ∙ same

pub heard_is : (s h : Server) (byte : ℕ) → h.reading ≡ (step s.reading byte).reading → h.session ≡ s.session
    → h.last ≡ last_after s.last (event_of s byte) → h ≡ heard_by s byte
heard_is s h byte reading session last =
    ap (λ r. record h { reading = r }) reading
    ∙ ap (λ r. record h { reading = (step s.reading byte).reading; session = r }) session
    ∙ ap (λ r. record { reading = (step s.reading byte).reading; session = s.session; last = r }) last

abbrev pub streams : (i i_after : SourceState) (o o_after : SinkState) → Streams
streams i i_after o o_after =
    record { input = i; input_after = i_after; output = o; output_after = o_after }

module _ {T : Type 0} (view : T → View) (does : T → ℕ → Doing → Type 0) (moves : T → Motion → List Point → Stop → T → Type 0)
    (tells : T → List ℕ → List ℕ → Option Stop → T → Type 0) where
  -- one byte more
  pub serves_more : (s : Standing T) (heard put : List ℕ) (m : Standing T) (byte : ℕ) (piece : List ℕ) (x : Standing T)
      → Serves view does moves tells s heard put m → Hears view does moves tells m byte piece x
      → Serves view does moves tells s (heard ++ byte ∷ []) (put ++ piece) x
  serves_more s [] put m byte piece x serves hears =
      let h : Hears view does moves tells s byte piece x = subst (λ (n : Standing T). Hears view does moves tells n byte piece x) serves.1 hears in
      (x, piece, [], h, (refl, refl), ap (λ p. p ++ piece) serves.0 ∙ sym (append-nil piece))
  serves_more s (b ∷ bs) put m byte piece x (next, first, rest, hear, serves, puts) hears = (
    next,
    first,
    rest ++ piece,
    hear,
    serves_more next bs rest m byte piece x serves hears,
    ap (λ p. p ++ piece) puts ∙ append_assoc first rest piece,
  )

  -- so many bytes were heard so far, and nothing failed
  pub record IsServing (t : T) (io : Streams) (x : Standing T) (count : ℕ) : Type 0 where
    pub heard : List ℕ
    pub put : List ℕ
    pub serves : Serves view does moves tells (opening t) heard put x
    pub came : Gives io.input.rest heard io.input_after.rest
    pub was_put : Appends io.output.taken io.output_after.taken put
    pub as_many : length heard ≡ count
    pub no_fault : io.input_after.faults ≡ io.input.faults
    pub none_broken : io.output_after.faults ≡ io.output.faults

  pub starts : (t : T) (i : SourceState) (o : SinkState) (s : Server) → s ≡ (opening t).server
      → IsServing t (streams i i o o) (standing s t GoesOn) 0
  starts t i o s e = record {
    heard = [];
    put = [];
    serves = (refl, ap (λ (r : Server). standing r t GoesOn) e);
    came = comes_nothing i.rest;
    was_put = puts_nothing o.taken;
    as_many = refl;
    no_fault = refl;
    none_broken = refl;
  }

  -- one byte more was heard
  pub goes_on : (t : T) (i i1 i2 : SourceState) (o o1 o2 : SinkState) (m x : Standing T) (count byte : ℕ)
      → IsServing t (streams i i1 o o1) m count → Gives i1.rest (byte ∷ []) i2.rest → i2.faults ≡ i1.faults
      → HasHeard view does moves tells m byte x o1 o2 → IsServing t (streams i i2 o o2) x (count + 1)
  goes_on t i i1 i2 o o1 o2 m x count byte w gives same h = record {
    heard = w.heard ++ byte ∷ [];
    put = w.put ++ h.put;
    serves = serves_more (opening t) w.heard w.put m byte h.put x w.serves h.hears;
    came = comes_more i.rest i1.rest i2.rest w.heard (byte ∷ []) w.came gives;
    was_put = puts_on o.taken o1.taken o2.taken w.put h.put w.was_put h.puts.takes;
    as_many = length-append w.heard (byte ∷ []) ∙ ap (λ n. n + 1) w.as_many;
    no_fault = same ∙ w.no_fault;
    none_broken = h.puts.faults ∙ w.none_broken;
  }

  -- nothing came any more
  pub same_input : (t : T) (i i1 i2 : SourceState) (o o1 : SinkState) (m : Standing T) (count : ℕ)
      → IsServing t (streams i i1 o o1) m count → i2.rest ≡ i1.rest → i2.faults ≡ i1.faults
      → IsServing t (streams i i2 o o1) m count
  same_input t i i1 i2 o o1 m count w same faults = record {
    heard = w.heard;
    put = w.put;
    serves = w.serves;
    came = subst (λ r. Gives i.rest w.heard r) (sym same) w.came;
    was_put = w.was_put;
    as_many = w.as_many;
    no_fault = faults ∙ w.no_fault;
    none_broken = w.none_broken;
  }

  pub ends : (t : T) (io : Streams) (x : Standing T) (count : ℕ) (end : ServeEnd) (last : T) (w : IsServing t io x count)
      → x.target ≡ last → IsEnd end x.after w.heard io.input_after.rest → HasServed view does moves tells t io end last
  ends t io x count end last w same is = record {
    heard = w.heard;
    put = w.put;
    standing = x;
    serves = w.serves;
    came = w.came;
    was_put = w.was_put;
    run_is = same;
    ends = is;
  }

  -- the input failed
  pub stops : (t : T) (i i1 i2 : SourceState) (o o1 : SinkState) (m : Standing T) (count : ℕ)
      → IsServing t (streams i i1 o o1) m count → i2.rest ≡ i1.rest → Rose i1.faults i2.faults
      → Fails view does moves tells t (streams i i2 o o1) Input
  stops t i i1 i2 o o1 m count w same rose = (
    record {
      heard = w.heard;
      put = w.put;
      standing = m;
      serves = w.serves;
      came = subst (λ r. Gives i.rest w.heard r) (sym same) w.came;
      was_put = w.was_put;
    },
    subst (λ (n : ℕ). Rose n i2.faults) w.no_fault rose,
  )

  -- a byte was heard in part
  pub is_broken : (t : T) (i i1 i2 : SourceState) (o o1 o2 : SinkState) (m : Standing T) (count byte : ℕ) (e : ServeError)
      → IsServing t (streams i i1 o o1) m count → Gives i1.rest (byte ∷ []) i2.rest
      → BreaksOff view does moves tells m byte o1 o2 e → HasBroken view does moves tells t (streams i i2 o o2)
  is_broken t i i1 i2 o o1 o2 m count byte e w gives b = record {
    heard = w.heard;
    put = w.put;
    standing = m;
    byte = byte;
    piece = b.piece;
    serves = w.serves;
    came = comes_more i.rest i1.rest i2.rest w.heard (byte ∷ []) w.came gives;
    was_put = puts_on o.taken o1.taken o2.taken w.put b.piece w.was_put b.breaks.takes;
    begins = b.begins;
  }

  pub breaks : (t : T) (i i1 i2 : SourceState) (o o1 o2 : SinkState) (m : Standing T) (count byte : ℕ) (e : ServeError)
      → IsServing t (streams i i1 o o1) m count → Gives i1.rest (byte ∷ []) i2.rest
      → BreaksOff view does moves tells m byte o1 o2 e → Fails view does moves tells t (streams i i2 o o2) e
  breaks t i i1 i2 o o1 o2 m count byte Input w gives b = absurd b.breaks.rises
  breaks t i i1 i2 o o1 o2 m count byte Output w gives b =
      (is_broken t i i1 i2 o o1 o2 m count byte Output w gives b, subst (λ (n : ℕ). Rose n o2.faults) w.none_broken b.breaks.rises)
  breaks t i i1 i2 o o1 o2 m count byte OutOfMemory w gives b =
      is_broken t i i1 i2 o o1 o2 m count byte OutOfMemory w gives b

  with_answer : (s h : Server) (t : T) (byte : ℕ) (x : Standing T) (packet : List ℕ)
      → h ≡ heard_by s byte → is_request (event_of s byte) ≡ true → IsAnswered view does moves tells h t packet x
      → Hears view does moves tells (standing s t GoesOn) byte (put_at_once s byte ++ packet) x
  with_answer s h t byte x packet heard asked answers = record {
    packet = packet;
    stays = refl;
    puts = refl;
    answered = subst (λ b. IsAnsweredIf view does moves tells b (heard_by s byte) t packet x) (sym asked)
        (subst (λ (r : Server). IsAnswered view does moves tells r t packet x) heard answers);
  }

  begins_so : (s h : Server) (t : T) (byte : ℕ) (piece : List ℕ) (k : ℕ)
      → h ≡ heard_by s byte → is_request (event_of s byte) ≡ true
      → (piece ≡ []) ⊎ ((packet : List ℕ) × (x : Standing T) × IsAnswered view does moves tells h t packet x × (piece ≡ take k packet))
      → IsBeginning view does moves tells (standing s t GoesOn) byte (put_at_once s byte ++ piece)
  begins_so s h t byte piece k heard asked (inl none) = (
    length (put_at_once s byte),
    inl (ap (λ p. put_at_once s byte ++ p) none ∙ append-nil (put_at_once s byte)
        ∙ sym (take-length (put_at_once s byte))),
  )
  begins_so s h t byte piece k heard asked (inr (packet, x, answers, is)) = (
    length (put_at_once s byte) + k,
    inr (
      put_at_once s byte ++ packet,
      x,
      with_answer s h t byte x packet heard asked answers,
      ap (λ p. put_at_once s byte ++ p) is ∙ sym (take-append-add (put_at_once s byte) packet k),
    ),
  )

  -- a request was heard, and its answer put, or a part of it
  pub hears_answer : (s h : Server) (t : T) (byte : ℕ) (x : Standing T) (o o1 o2 : SinkState) (piece : List ℕ)
      → h ≡ heard_by s byte → is_request (event_of s byte) ≡ true → piece ≡ put_at_once s byte
      → HasPut o o1 piece → HasAnswered view does moves tells h t x o1 o2
      → HasHeard view does moves tells (standing s t GoesOn) byte x o o2
  hears_answer s h t byte x o o1 o2 piece heard asked at_once puts a = record {
    put = put_at_once s byte ++ a.packet;
    hears = with_answer s h t byte x a.packet heard asked a.answers;
    puts = record {
      takes = puts_on o.taken o1.taken o2.taken (put_at_once s byte) a.packet
          (subst (λ (p : List ℕ). Appends o.taken o1.taken p) at_once puts.takes) a.puts.takes;
      faults = a.puts.faults ∙ puts.faults;
    };
  }

  pub breaks_answer : (s h : Server) (t : T) (byte : ℕ) (o o1 o2 : SinkState) (piece : List ℕ) (e : ServeError)
      → h ≡ heard_by s byte → is_request (event_of s byte) ≡ true → piece ≡ put_at_once s byte
      → HasPut o o1 piece → BreaksAnswerOff view does moves tells h t o1 o2 e
      → BreaksOff view does moves tells (standing s t GoesOn) byte o o2 e
  breaks_answer s h t byte o o1 o2 piece e heard asked at_once puts a = record {
    piece = put_at_once s byte ++ a.piece;
    begins = begins_so s h t byte a.piece a.k heard asked a.part;
    breaks = record {
      takes = puts_on o.taken o1.taken o2.taken (put_at_once s byte) a.piece
          (subst (λ (p : List ℕ). Appends o.taken o1.taken p) at_once puts.takes) a.breaks.takes;
      rises = rises_from e o o1 o2 puts.faults a.breaks.rises;
    };
  }
