use Rattle.views.proofs.code.put_code.Goals as goal
